-- A filter that makes what is given chunks.
use Rattle.std.specs.Prelude.{◌≡◌, ℕ, ◌+◌, ◌<◌, ◌≤◌, List, [], length, min, MatchResult}
use Rattle.bodies.specs.Words.{All, concat, Buffered, Flushes, ReadsInOrder, StdPolicy, ChunksWent, FilterRules, AllSent, around, target_of, InputFault, Encoding}
use Rattle.bodies.specs.Encode.{IsDue}
use Rattle.bodies.specs.Filters.{Asked}

-- what each call of the filter wants
pub record MayEncode {R W : Type 0} (s : Encoding R W) : Type 0 where
  pub capacity : s.source.block.capacity ≡ 8192
  -- no chunk of what one read may give is begun that doesn't fit
  pub fits : around + 8192 ≤ s.target.writer.block.capacity
  pub between : s.target.due ≡ 0

-- the payloads were handed out by a buffer that kept its size, each for a read that gave bytes, 8192 at most, but for one whose
-- bytes are left; each other read gave none, or failed
pub record HandsReads {R : Type 0} (s : Buffered R StdPolicy) (payloads : List (List ℕ)) (t : Buffered R StdPolicy) : Type 0 where
  pub in_order : ReadsInOrder s (concat payloads) t
  pub each : t.log.reads.asks + s.log.reads.zero_reads + length s.log.reads.faults + min 1 (length s.block.bytes)
      ≡ s.log.reads.asks + t.log.reads.zero_reads + length t.log.reads.faults + length payloads + min 1 (length t.block.bytes)
  pub small : All (λ payload. length payload ≤ 8192) payloads
  pub room : t.block.capacity ≡ s.block.capacity

-- the reader inside was asked, for a whole buffer, where nothing was buffered
pub record AsksBuffer {R : Type 0} (s t : Buffered R StdPolicy) : Type 0 where
  pub asked : Asked (λ bytes. bytes ≡ []) s t
  pub some : s.log.reads.asks < t.log.reads.asks
  pub offer : t.log.reads.offer ≡ 8192

-- at the end nothing is left, and the reader gave nothing, once. No byte is wrong
abbrev pub encoding_rules : {R W : Type 0} → (W → W → Type 0) → FilterRules (Encoding R W) InputFault
encoding_rules trace = record {
  read = λ s. s.source.log;
  target = λ s. target_of s.target.writer;
  ready = λ s. MayEncode s;
  hands = λ s payloads t. HandsReads s.source payloads t.source;
  takes = λ s payloads t. ChunksWent trace s.target payloads t.target;
  has = λ s. 0 < length s.source.block.bytes;
  lacks = λ s. s.source.block.bytes ≡ [];
  waits = λ s. s.source.block.bytes ≡ [];
  sent = λ s. AllSent s.target.writer;
  spare = around;
  rounds = λ s. 0;
  flushes = λ s answer t. Flushes s.target.writer answer t.target.writer;
  asks = λ s t. AsksBuffer s.source t.source;
  looks = λ s t. Unit {0};
  wants = λ s. 0;
  ends = λ s how t. MatchResult how
      (λ _. (t.source.block.bytes ≡ []) × (t.source.log.reads.zero_reads ≡ s.source.log.reads.zero_reads + 1)) (λ why. ⊥);
  closed = λ s. ⊥;
  fresh = λ s. (s.source.block.bytes ≡ []) × (s.target.writer.block.bytes ≡ []);
  due = λ s. IsDue;
  drops = ⊥;
  refused = λ e t. ⊥;
  loses = 0;
}
