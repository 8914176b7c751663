use Rattle.px_json.proofs.Rows.{too_many, read_few}
use Rattle.px_json.proofs.read.buffer_of.Goals as goal

pub returns-then-items-ge-TOO_LONG : goal.returns-then-items-ge-TOO_LONG
returns-then-items-ge-TOO_LONG c = too_many c.args.value_type c.args.items.now c.if-items-ge-TOO_LONG.true

pub returns : goal.returns
returns c = read_few c.args.value_type c.args.items.now c.rows_of_kind.result c.if-items-ge-TOO_LONG.false c.rows_of_kind.ensures
