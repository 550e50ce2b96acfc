-- What `forward` says first.
use Rattle.std.proofs.Common.{◌≡◌, ℕ, List, length, Result, Ok, Err, MatchResult}
use Rattle.forward.specs.Filter.{FilterRules}
use Rattle.forward.specs.Forward.{Forwards}
use Rattle.forward.specs.ForwardLaws.{stop_moves}
use Rattle.forward.specs.Link.{Linked}
use Rattle.forward.specs.declared.error.Stopped.{Stopped}

module _ {T W : Type 0} (rules : FilterRules T W) where
  pub forward_says : (s t : Linked T) (answer : Result ℕ (Stopped W)) → Forwards rules s answer t → record {
    forwarded : (payloads : List (List ℕ)) × rules.takes s.filter payloads t.filter × MatchResult answer
        (λ count. (length payloads ≡ count) × rules.hands s.filter payloads t.filter)
        (λ stopped. length payloads ≡ stopped.count);
    forwards : Forwards rules s answer t;
  }
  forward_says s t (Ok count) forwards =
      let all = forwards.answers.0 in
      record { forwarded = (all.payloads, all.moves.takes, (all.all, all.moves.hands)); forwards = forwards }
  forward_says s t (Err stopped) forwards =
      let (handed, taken, moves, all) = stop_moves rules stopped.count s.filter t.filter stopped.cause forwards.answers in
      record { forwarded = (taken, moves.takes, all); forwards = forwards }
