-- The rows so far take the text to where the parser stands, and where it has no next one the text is used up.
use Rattle.std.proofs.Common.{◌≡◌, ◌∙◌, ◌∷◌, [], List, ℕ, Option, None, Some, IfSome, inl, inr, option_map, refl, rules, sym, true, vec_items}
use Rattle.std.specs.Result.{is_ok}
use Rattle.std.proofs.lemmas.List.{map-append}
use Rattle.std.proofs.lemmas.Option.{IfSome_then}
use Rattle.csv.specs.Reading.{Reached, default_config, strip_bom}
use Rattle.csv.specs.Records.{fields_of}
use Rattle.csv.specs.declared.parser.State.{State}
use Rattle.csv.specs.declared.parser.State.TheVariants.{StartRecord}
use Rattle.csv.proofs.ReadFacts.{rows-more}
use Rattle.uses.proofs.csv_rows.read_rows.Goals as goal

-- before the first row the parser stands at the front of the text
none_yet : (known source : Option (List ℕ)) (state : State) → source ≡ option_map strip_bom known → state ≡ StartRecord
    → IfSome known (λ text. (rest : List ℕ) × (source ≡ Some rest)
    × Reached default_config StartRecord (strip_bom text) [] state rest)
unfolding Reached
none_yet None source state same start = tt
none_yet (Some text) source state same start = (strip_bom text, same, (sym start, refl))

pub loop-row-init : goal.loop-row-init
loop-row-init g c =
    let made = c.from_reader-parser.ensures in
    let set = c.has_headers.ensures in
    let begun = c.into_iter-row-iterator.ensures.into_iter_gives ∙ refl in
    rw (begun, c.into_byte_records-row-items.ensures.rdr, c.new-rows.ensures.items) (record {
      trim = rw set at made.trim ∙ c.new.ensures.trim;
      ready = inr (inr (rw set at made.has_headers, made.headers));
      left = c.into_byte_records-row-items.ensures.left;
      config = rw set at made.config ∙ c.new.ensures.config;
      reached = none_yet _ _ _ made.source made.state;
    })

pub loop-row-preserved : goal.loop-row-preserved
loop-row-preserved g c =
    let before = c.loop-row.invariant in
    let step = rw (c.in-Some.is, c.in_ok-row.was) at ((c.next.ensures.steps before.left before.trim).0 before.ready) in
    let pushed : is_ok c.push.result ≡ true = search rules in
    record {
      trim = step.0.3 ∙ before.trim;
      ready = inl step.1;
      left = step.2;
      config = step.0.2 ∙ before.config;
      reached =
          rw (rw pushed at c.push.ensures.items, map-append fields_of (vec_items c.loop-row.rows) (c.in_ok-row.field-0 ∷ []))
          (IfSome_then (g.R.Read.remaining c.args.reader) before.reached (λ text so_far.
          rows-more g.R.Read.remaining c.loop-row.row-iterator.rdr c.next.new.self.rdr (fields_of c.in_ok-row.field-0)
          _ _ _ _ _ before.config so_far.1 so_far.2 step.0));
    }
