-- With the keys that are left all are taken out, and a key counts where it was there.
use Rattle.std.proofs.Common.{◌≡◌, ap, arith, drop_of_length-le, inl, inr, refl, subst, sym, ◌+◌}
use Rattle.resp.specs.Commands.{Deletes}
use Rattle.resp.specs.Stored.{held}
use Rattle.resp.specs.Waiting.{bytes_of}
use Rattle.resp.proofs.Deleting.{one_more}
use Rattle.resp.proofs.Keys.{Same-refl}
use Rattle.resp.proofs.command.del_all.Goals.{then-del, else-del}
use Rattle.resp.proofs.command.del_all.Goals as goal

pub loop-key-preserved : goal.loop-key-preserved
loop-key-preserved c =
    let before = c.loop-key.invariant in
    let more = one_more c.args.keys.now c.loop-key.key-index c.key-item.result c.as_slice.result.now c.loop-key-test.true
    c.key-item.is c.as_slice.ensures.value (bytes_of c.args.keys.now) (held c.args.store.now) (held c.loop-key.store)
    (held c.del.new.self) c.loop-key.count c.if-del.count c.del.result c.del.ensures.was c.del.ensures.put in
    elim c.if-del.branch [
      | then-del w ↦
          record { few = omega (arith, before.few, w.count-is); rest = more (inl (w.if-del.true, w.count-is)) before.rest }
      | else-del w ↦
          record { few = omega (arith, before.few, w.count-is); rest = more (inr (w.if-del.false, w.count-is)) before.rest }
    ]

pub returns : goal.returns
returns c =
    let last = held c.loop-key.store in
    let none = ap bytes_of (drop_of_length-le c.args.keys.now c.loop-key-test.false) in
    let sum : c.loop-key.count + 0 ≡ c.loop-key.count = omega arith in
    subst (λ n. Deletes (bytes_of c.args.keys.now) (held c.args.store.now) n last) sum
    (c.loop-key.invariant.rest 0 last (subst (λ l. Deletes l last 0 last) (sym none) (refl, Same-refl last)))
