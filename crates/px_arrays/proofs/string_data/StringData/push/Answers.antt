use Rattle.std.proofs.Common.{◌∙◌, ◌++◌, ◌∷◌, [], ap, string_bytes}
use Rattle.px_arrays.proofs.StringDataLemmas.{ends_push, strings_push}
use Rattle.px_arrays.proofs.string_data.StringData.push.Goals as goal

pub invariant_of-self-2 : goal.invariant_of-self-2
invariant_of-self-2 c =
    let s = c.self.inside in
    rw (c.in_ok-push.ensures.items, c.in_ok-try_reserve.ensures.items, c.in_ok-push_str.ensures.bytes, c.as_str.ensures.value, c.in_ok-push_str.ensures.bytes)
    (ends_push (string_bytes s.text) c.args.text.now 0 s.ends.items c.utf8.text c.self.invariant)

pub returns-clause-ok : goal.returns-clause-ok
returns-clause-ok c =
    let s = c.self.inside in
    rw (c.in_ok-push.ensures.items, c.in_ok-try_reserve.ensures.items, c.in_ok-push_str.ensures.bytes, c.as_str.ensures.value, c.in_ok-push_str.ensures.bytes)
    (strings_push (string_bytes s.text) c.args.text.now 0 s.ends.items c.self.invariant ∙ ap (λ l. l ++ c.args.text.now ∷ []) c.self.view_is)
