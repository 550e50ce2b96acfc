-- What was written, some text behind some text.
use Rattle.std.proofs.Common.{◌≡◌, ℕ, ◌+◌, ◌<◌, List, [], ◌∷◌, ◌++◌, length, map, take, drop, get_or, Bool, true, false, Option, Result, Ok, Err, ◌⊎◌, inl, inr, refl, sym, ap, subst, ◌∙◌}
use Rattle.std.proofs.lemmas.List.{map-append, take-append-drop, take_more}
use Rattle.redux_buffer.specs.Faults.{MetInterrupts-none}
use Rattle.body_reader.specs.BodyReader.{handed_of}
use Rattle.multipart.specs.Multipart.{FormState}
use Rattle.parts.specs.declared.error.RunError.{RunError}
use Rattle.parts.specs.declared.error.RunError.TheVariants as Run
use Rattle.parts.proofs.Meeting.{GaveUpOften, all_met, met_on, often_on}
use Rattle.parts.proofs.Parts.{PartsSoFar, all_handed, fails_on, still_inside}
use Rattle.std.specs.declared.io.Error.{Error}
use Rattle.buffer_redux.specs.Buffered.{Buffered}
use Rattle.buffer_redux.specs.Policy.{std_write_rules}
use Rattle.buffer_redux.specs.StreamLog.{StreamLog}
use Rattle.buffer_redux.specs.WriteAll.{WritesAll}
use Rattle.buffer_redux.specs.WriterTells.{LeavesCapacity-std}
use Rattle.buffer_redux.specs.WritesAlongLaws.{AllAlong-after, StoppedAlong-more, WritesAll-all, WritesAlong-none}
use Rattle.buffer_redux.specs.declared.policy.StdPolicy.{StdPolicy}
use Rattle.parts.specs.Sections.{LeavesNext, ListAnswers, ListEnds, PutsBytes, PutsWanted, TakesText, Turn, list_line, list_lines}

module _ {T : Type 0} (tells : T → StreamLog) (trace : T → T → Type 0) where
  -- a write of all of a slice
  pub puts_all : (u : Buffered T StdPolicy) (bytes : List ℕ) (answer : Result (Unit {0}) Error) (v : Buffered T StdPolicy)
      → WritesAll tells trace std_write_rules u bytes answer v → GaveUpOften u answer v → PutsBytes tells trace u bytes answer v
  puts_all u bytes answer v all often = record {
    all = WritesAll-all tells trace std_write_rules u bytes answer v all refl;
    met = all_met tells trace u bytes answer v all;
    often = often;
    unflushed = all.front.keeps.flushes;
    room = all.front.keeps.same_capacity LeavesCapacity-std;
  }

  pub puts_none : ((x : T) → trace x x) → (u : Buffered T StdPolicy) → PutsBytes tells trace u [] (Ok tt) u
  puts_none none u = record {
    all = WritesAlong-none tells trace std_write_rules none u;
    met = MetInterrupts-none u.log.writes;
    often = tt;
    unflushed = refl;
    room = refl;
  }

  -- and some more
  pub puts_then : ((a b c : T) → trace a b → trace b c → trace a c) → (u m v : Buffered T StdPolicy) (said more : List ℕ)
      (answer : Result (Unit {0}) Error) → PutsBytes tells trace u said (Ok tt) m → PutsBytes tells trace m more answer v
      → PutsBytes tells trace u (said ++ more) answer v
  puts_then joins u m v said more answer p q = record {
    all = AllAlong-after tells trace std_write_rules joins u m v said more answer p.all q.all;
    met = met_on u m v answer p.met q.met;
    often = often_on u m v answer p.met q.often;
    unflushed = q.unflushed ∙ p.unflushed;
    room = q.room ∙ p.room;
  }

  -- or none, where that failed
  pub puts_no_more : (u v : Buffered T StdPolicy) (said more : List ℕ) (e : Error) → PutsBytes tells trace u said (Err e) v
      → PutsBytes tells trace u (said ++ more) (Err e) v
  puts_no_more u v said more e p = record {
    all = StoppedAlong-more tells trace std_write_rules u v said more e p.all;
    met = tt;
    often = p.often;
    unflushed = p.unflushed;
    room = p.room;
  }

  -- the same of what may be wanted
  pub wanted_none : ((x : T) → trace x x) → (wanted : Bool) (u : Buffered T StdPolicy)
      → PutsWanted tells trace wanted u [] (Ok tt) u
  wanted_none none true u = puts_none none u
  wanted_none none false u = (refl, refl)

  pub wanted_then : ((a b c : T) → trace a b → trace b c → trace a c) → (wanted : Bool) (u m v : Buffered T StdPolicy)
      (said more : List ℕ) (answer : Result (Unit {0}) Error) → PutsWanted tells trace wanted u said (Ok tt) m
      → PutsWanted tells trace wanted m more answer v → PutsWanted tells trace wanted u (said ++ more) answer v
  wanted_then joins true u m v said more answer p q = puts_then joins u m v said more answer p q
  wanted_then joins false u m v said more answer p q = (q.0, q.1 ∙ p.1)

  -- and one byte more of a text, each by this function
  pub puts_next : ((a b c : T) → trace a b → trace b c → trace a c) → (f : ℕ → ℕ) (text : List ℕ) (i : ℕ) → i < length text
      → (u m v : Buffered T StdPolicy) (answer : Result (Unit {0}) Error)
      → PutsBytes tells trace u (map f (take i text)) (Ok tt) m → PutsBytes tells trace m (f (get_or text i 0) ∷ []) answer v
      → PutsBytes tells trace u (map f (take (i + 1) text)) answer v
  puts_next joins f text i less u m v answer p q = subst (λ l. PutsBytes tells trace u l answer v)
      (sym (ap (map f) (take_more text i 0 less) ∙ map-append f (take i text) (get_or text i 0 ∷ [])))
      (puts_then joins u m v (map f (take i text)) (f (get_or text i 0) ∷ []) answer p q)

  pub puts_stopped : (f : ℕ → ℕ) (text : List ℕ) (i : ℕ) (u v : Buffered T StdPolicy) (e : Error)
      → PutsBytes tells trace u (map f (take i text)) (Err e) v → PutsBytes tells trace u (map f text) (Err e) v
  puts_stopped f text i u v e p = subst (λ l. PutsBytes tells trace u l (Err e) v)
      (sym (map-append f (take i text) (drop i text)) ∙ ap (map f) (take-append-drop i text))
      (puts_no_more u v (map f (take i text)) (map f (drop i text)) e p)

  -- where no text came first, or the last ended, the lines are those up to the next boundary
  pub lines_on : {Whole : Type 0} (u v : Buffered T StdPolicy) (turns : List Turn) (came text : List ℕ)
      → (turns ≡ []) ⊎ Whole → (Whole → text ≡ came) → PutsBytes tells trace u (list_lines turns came) (Ok tt) v
      → PutsBytes tells trace u (list_lines turns text) (Ok tt) v
  lines_on u v turns came text (inl none) same puts =
      subst (λ l. PutsBytes tells trace u l (Ok tt) v)
      (ap (λ x. list_lines x came) none ∙ ap (λ x. list_lines x text) (sym none)) puts
  lines_on u v turns came text (inr whole) same puts =
      subst (λ l. PutsBytes tells trace u (list_lines turns l) (Ok tt) v) (sym (same whole)) puts

-- behind the lines of earlier parts the text of one that was just begun was taken
module _ {S T : Type 0} (remaining : S → Option (List ℕ)) (tells : T → StreamLog) (trace : T → T → Type 0)
    {s m t : FormState S StdPolicy} {count : ℕ} {turn : Turn} {earlier : List Turn} {u v v' : Buffered T StdPolicy}
    (so : PartsSoFar s count (turn ∷ earlier) m) (fresh : handed_of m.body ≡ [])
    (before : PutsBytes tells trace u (list_lines earlier turn.text) (Ok tt) v) where
  -- not whole
  pub left : (e : RunError) → TakesText remaining tells trace false m v (Err e) t v' → ListAnswers tells trace s u (Err e) t v'
  left e takes = record {
    turns = earlier;
    text = turn.text;
    ends = ends e takes;
    puts = rw (takes.puts.0, takes.puts.1) before;
  }
    where
      cut : (e : RunError) → TakesText remaining tells trace false m v (Err e) t v' → LeavesNext s earlier turn.text e t
      cut e takes =
          (turn.head, still_inside remaining so takes.took, fails_on remaining so takes.took fresh e takes.ends)

      ends : (e : RunError) → TakesText remaining tells trace false m v (Err e) t v' → ListEnds s earlier turn.text (Err e) t
      ends (Run.Body w) takes = inr (cut (Run.Body w) takes)
      ends Run.Many takes = inr (cut Run.Many takes)
      ends (Run.Write x) takes = absurd (let odd = takes.puts.0 in cc)
      ends (Run.Parts w) takes = absurd takes.ends
      ends Run.Missing takes = absurd takes.ends

  -- or whole, and then its line was written, or a beginning
  module _ (joins : (a b c : T) → trace a b → trace b c → trace a c) {len : ℕ}
      (takes : TakesText remaining tells trace false m v (Ok len) t v') where
    pub lined : {answer : Result (Unit {0}) Error} {w : Buffered T StdPolicy}
        → PutsBytes tells trace v' (list_line turn.head len) answer w
        → PutsBytes tells trace u (list_lines (turn ∷ earlier) (handed_of t.body)) answer w
    lined {answer} {w} line =
        let text = all_handed remaining so takes.took fresh in
        puts_then tells trace joins u v w (list_lines earlier turn.text) _ answer before
        (rw (takes.puts.1, takes.len, text) at line)
