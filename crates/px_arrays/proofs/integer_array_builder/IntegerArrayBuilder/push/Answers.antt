use Rattle.std.proofs.Common.{◌∙◌, ◌++◌, ◌∷◌, [], ap}
use Rattle.std.proofs.lemmas.List.{length-map}
use Rattle.px_semantics.specs.Rows.{entry}
use Rattle.px_arrays.proofs.Entries.{entries_push, entry_of_option}
use Rattle.px_arrays.proofs.integer_array_builder.IntegerArrayBuilder.push.Goals as goal

pub returns-clause-ok : goal.returns-clause-ok
returns-clause-ok g c =
    let n = g.T.Integer.integer in
    let s = c.self.inside in
    rw (c.in_ok-push-2.ensures.items, c.in_ok-push.ensures.items, c.in_ok-try_reserve.ensures.items)
    (entries_push n s.valid.items s.values.items c.is_some.result c.unwrap_or-value.result (c.self.invariant.same_length ∙ length-map s.values.items n)
    ∙ ap (λ l. l ++ entry c.is_some.result (n c.unwrap_or-value.result) ∷ []) c.self.view_is
    ∙ ap (λ r. c.args.self.now ++ r ∷ []) (rw (c.is_some.ensures, c.unwrap_or-value.ensures) (entry_of_option n c.args.row c.zero.result)))
