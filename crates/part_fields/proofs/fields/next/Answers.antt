-- What was trimmed is a function of the text.
use Rattle.std.proofs.Common.{◌∙◌, ap}
use Rattle.std.proofs.lemmas.Str.Ascii.{trim_ascii_start_is}
use Rattle.part_fields.specs.Fields.{after_front}
use Rattle.part_fields.proofs.fields.next.Goals as goal

pub returns : goal.returns
returns c = c.after_front.ensures ∙ ap (after_front c.args.front.now) (trim_ascii_start_is _ _ c.trim_ascii_start.ensures.value)
