use Rattle.std.proofs.Common.{sym, ◌∙◌}
use Rattle.px_json.proofs.JsonAccessLemmas.{only_member_one, only_member_several}
use Rattle.px_json.proofs.access.only_member.Goals as goal

pub returns-then-len-ne1 : goal.returns-then-len-ne1
returns-then-len-ne1 c =
    only_member_several _ c.in_ok-map.map.now.entries c.in_ok-map.ensures (λ e. c.if-len-ne1.true (c.len.ensures.len ∙ e))

pub returns : goal.returns
returns c =
    rw c.as_str.ensures.value (only_member_one _ c.in_ok-map.map.now.entries (c.in_ok-name.name.now, c.in_ok-name.member.now) c.in_ok-map.ensures (sym c.len.ensures.len ∙ c.if-len-ne1.false) c.in_ok-name.ensures.first)
