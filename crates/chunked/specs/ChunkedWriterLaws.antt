-- Laws of a writer of a body: traces of calls join.
use Rattle.std.specs.Prelude.{ℕ, List, [], ◌++◌, flat_map}
use Rattle.chunked.specs.Names.{All-append, All-nil, chunk, ChunkedWriterState, ChunkingWent, ChunksWent, concat, concat-append, flat_map-append, IsCarried, PayloadWent, WriteLogGrows-joins, WriteLogGrows-none, WritesGoOn, WritesGoOn-of, WritesInOrder-joins, WritesInOrder-none}
use Rattle.std.proofs.Common.{◌∙◌, append_assoc, append-nil, arith, refl}

module _ {S : Type 0} (trace : S → S → Type 0) (none : (x : S) → trace x x)
    (joins : (a b c : S) → trace a b → trace b c → trace a c) where
  -- no call takes in nothing, and two traces of calls join
  pub PayloadWent-none : (s : ChunkedWriterState S) → PayloadWent trace s [] [] s
  PayloadWent-none s = grind (arith, WritesInOrder-none, append-nil, none)

  pub PayloadWent-joins : (s m t : ChunkedWriterState S) (bytes more payload later : List ℕ)
      → PayloadWent trace s bytes payload m → PayloadWent trace m more later t
      → PayloadWent trace s (bytes ++ more) (payload ++ later) t
  PayloadWent-joins s m t bytes more payload later p q = grind (arith, WritesInOrder-joins, append_assoc, joins)

  pub ChunksWent-none : (s : ChunkedWriterState S) → ChunksWent trace s [] s
  ChunksWent-none s = record { carried = All-nil IsCarried; went = PayloadWent-none s; due = refl }

  pub ChunksWent-joins : (s m t : ChunkedWriterState S) (ps qs : List (List ℕ)) → ChunksWent trace s ps m
      → ChunksWent trace m qs t
      → ChunksWent trace s (ps ++ qs) t
  ChunksWent-joins s m t ps qs p q = record {
    carried = All-append IsCarried ps qs p.carried q.carried;
    went = rw (flat_map-append, concat-append)
        (PayloadWent-joins s m t (flat_map chunk ps) (flat_map chunk qs) (concat ps) (concat qs) p.went q.went);
    due = q.due ∙ p.due;
  }

  -- an empty trace of calls that are told, and two that join
  pub ChunkingWent-none : (s : ChunkedWriterState S) → ChunkingWent trace s s
  ChunkingWent-none s =
      record { bytes = []; payload = []; went = PayloadWent-none s; grows = WriteLogGrows-none s.calls.writes }

  pub ChunkingWent-joins : (s m t : ChunkedWriterState S) → ChunkingWent trace s m → ChunkingWent trace m t
      → ChunkingWent trace s t
  ChunkingWent-joins s m t p q = record {
    bytes = p.bytes ++ q.bytes;
    payload = p.payload ++ q.payload;
    went = PayloadWent-joins s m t p.bytes q.bytes p.payload q.payload p.went q.went;
    grows = WriteLogGrows-joins s.calls.writes m.calls.writes t.calls.writes p.grows q.grows;
  }

-- in such calls the log only goes on
pub ChunkingWent-grows : {S : Type 0} (trace : S → S → Type 0) (s t : ChunkedWriterState S) → ChunkingWent trace s t
    → WritesGoOn s.calls t.calls
ChunkingWent-grows trace s t went = WritesGoOn-of s.calls t.calls went.grows
