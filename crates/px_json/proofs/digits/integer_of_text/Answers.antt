use Rattle.px_json.proofs.DigitLemmas.{not_read}
use Rattle.px_json.proofs.digits.integer_of_text.Goals as goal

pub returns-in_default : goal.returns-in_default
returns-in_default c = not_read c.args.text.now c.in_default.ensures.value.0
