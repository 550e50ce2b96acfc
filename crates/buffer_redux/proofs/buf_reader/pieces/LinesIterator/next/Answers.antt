-- A whole line was given, and without its end it is a text, or `InvalidData` comes in its place.
use Rattle.std.proofs.Common.{List, ℕ, ◌≡◌, String, Result, Ok, Err, Some, Option, MatchResult, string_bytes, IsUtf8, inl, inr, vec_items, subst, sym}
use Rattle.std.specs.Global.{Global, Vec}
use Rattle.std.specs.IoError.{error_kind}
use Rattle.std.specs.declared.io.Error.{Error}
use Rattle.std.specs.declared.io.ErrorKind.TheVariants.{InvalidData}
use Rattle.buffer_redux.specs.Policy.{ReadRules}
use Rattle.buffer_redux.specs.Pieces.{Gives, GivesLine, GivesWhole, Splitting, Stopped, without_end}
use Rattle.buffer_redux.proofs.buf_reader.pieces.LinesIterator.next.Goals as goal
use Rattle.buffer_redux.proofs.buf_reader.pieces.LinesIterator.next.Goals.{in-Ok, in-Err}

-- a whole line was given, and is text or not
gives_line : {S P : Type 0} (remaining : S → Option (List ℕ)) (rules : ReadRules P) (s t : Splitting S P) (line : List ℕ)
    (answer : Result (String Global) Error) → GivesWhole remaining rules s line t
    → MatchResult answer (λ text. string_bytes text ≡ without_end line)
    (λ e. (¬ IsUtf8 (without_end line)) × (error_kind e ≡ InvalidData))
    → GivesLine remaining rules s (Some answer) t
gives_line remaining rules s t line (Ok text) whole is = (line, whole, is)
gives_line remaining rules s t line (Err e) whole (not, kind) = inr (line, whole, not, kind)

gives_stop : {S P : Type 0} (remaining : S → Option (List ℕ)) (rules : ReadRules P) (s t : Splitting S P) (e : Error)
    → Stopped remaining rules s e t → GivesLine remaining rules s (Some (Err e)) t
gives_stop remaining rules s t e stopped = inl stopped

pub returns-clause-steps : goal.returns-clause-steps
returns-clause-steps g c =
    let remaining = g.R.TellRead.remaining in
    let rules = g.P.ReaderPolicy.rules in
    let s = c.self.inside.lines in
    let t = c.next_whole.new.self in
    let gave : (r : Result (Vec ℕ) Error) → c.in_ok-line.field-0 ≡ r
    → Gives remaining rules (λ v piece. vec_items v ≡ piece) s (Some r) t
    = λ r is. subst (λ x. Gives remaining rules (λ v piece. vec_items v ≡ piece) s (Some x) t) is
    c.in_ok-line.ensures.gives in
    subst (λ x. GivesLine remaining rules x c.match-branch-2.result t) c.self.view_is (elim c.match-branch-2.branch [
      | in-Ok w ↦
          let whole = gave (Ok w.in-Ok.line) w.in-Ok.is in
          let text = subst (λ l. MatchResult w.text_of.result (λ x. string_bytes x ≡ without_end l)
          (λ e. (¬ IsUtf8 (without_end l)) × (error_kind e ≡ InvalidData))) whole.2 w.text_of.ensures in
          subst (λ r. GivesLine remaining rules s r t) (sym w.result-is)
          (gives_line remaining rules s t whole.0 w.text_of.result whole.1 text)
      | in-Err w ↦ subst (λ r. GivesLine remaining rules s r t) (sym w.result-is)
          (gives_stop remaining rules s t w.in-Err.e (gave (Err w.in-Err.e) w.in-Err.is))
    ])
