use Rattle.std.proofs.Common.{◌≡◌, ◌<◌, ℕ, List, IfSome, Some, map, vec_items}
use Rattle.csv.specs.Reading.{Reached, Ready, default_config, source_of, strip_bom}
use Rattle.csv.specs.Records.{fields_of}
use Rattle.csv.specs.declared.parser.State.TheVariants.{StartRecord}
use Rattle.csv.specs.declared.reader.Trim.TheVariants as trim
use Rattle.uses.proofs.csv_rows.read_rows.Given as goal

-- the rows so far take the text to where the parser stands
abbrev pub invariant-loop-row : goal.invariant-loop-row
invariant-loop-row g l = record {
  trim : l.row-iterator.rdr.trim ≡ trim.None;
  ready : Ready l.row-iterator.rdr;
  left : 0 < l.row-iterator.left;
  config : l.row-iterator.rdr.config ≡ default_config;
  reached : IfSome (g.R.Read.remaining l.fn.reader) (λ text. (rest : List ℕ)
      × (source_of g.R.Read.remaining l.row-iterator.rdr ≡ Some rest)
      × Reached default_config StartRecord (strip_bom text) (map fields_of (vec_items l.rows))
      l.row-iterator.rdr.state rest);
}
