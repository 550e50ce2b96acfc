-- In a chunk whose place isn't settled no byte is left, so its end comes next.
use Rattle.chunked.specs.CodingLaws.{none_left}
use Rattle.chunked.specs.declared.place.Place.TheVariants.{Data}
use Rattle.chunked.proofs.step.step.Goals as goal

pub returns-in-Size : goal.returns-in-Size
returns-in-Size c = rw c.in-Size.is (c.in_size.ensures c.args.limits.now)

pub returns-in-Extension : goal.returns-in-Extension
returns-in-Extension c = rw c.in-Extension.is (c.in_extension.ensures c.args.limits.now)

pub returns-in-Data : goal.returns-in-Data
returns-in-Data c =
    let none = none_left c.args.limits.now (Data c.in-Data.field-0) (rw c.in-Data.is at c.requires.open) in
    rw (c.in-Data.is, none) (c.end_data.ensures c.args.limits.now)

pub returns-in-Fields : goal.returns-in-Fields
returns-in-Fields c = rw c.in-Fields.is (c.begin_field.ensures c.args.limits.now)

pub returns-in-FieldName : goal.returns-in-FieldName
returns-in-FieldName c = rw c.in-FieldName.is (c.in_name.ensures c.args.limits.now)

pub returns-in-FieldValue : goal.returns-in-FieldValue
returns-in-FieldValue c = rw c.in-FieldValue.is (c.in_value.ensures c.args.limits.now)
