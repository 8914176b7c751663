use Rattle.std.proofs.Common.{sym, ◌∙◌}
use Rattle.px_json.proofs.JsonAccessLemmas.{member_count-object}
use Rattle.px_json.proofs.access.member_count.Goals as goal

pub returns-in-Some : goal.returns-in-Some
returns-in-Some c = c.len.ensures.len ∙ sym (member_count-object _ c.in-Some.map.now.entries c.in-Some.ensures)
