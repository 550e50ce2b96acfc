-- How much of a message is taken.
use Rattle.std.specs.Prelude.{ℕ, min}
use Rattle.chunked.specs.declared.limits.Limits.{Limits as ChunkLimits}
use Rattle.messages.specs.declared.limits.Limits.{Limits}

-- the limits where no others are given
abbrev pub usual : Limits
usual = record { fields = 64; line = 256; trailers = 4096 }

-- the most fields of a head
abbrev pub fields_of : Limits → ℕ
fields_of limits = min limits.fields 64

-- and how much of a body in chunks may be no payload
abbrev pub chunks_of : Limits → ChunkLimits
chunks_of limits = record { line = limits.line; trailers = limits.trailers }
