use Rattle.std.proofs.Common.{◌∙◌, ◌++◌, ◌∷◌, [], ap}
use Rattle.px_semantics.specs.Rows.{string_entry}
use Rattle.px_arrays.proofs.Bitmaps.{zip2-append}
use Rattle.px_arrays.proofs.StringRows.{entry_of_text}
use Rattle.px_arrays.proofs.string_array_builder.StringArrayBuilder.push.Goals as goal

pub returns-clause-ok : goal.returns-clause-ok
returns-clause-ok c =
    let s = c.self.inside in
    rw (c.in_ok-push-2.ensures.items, c.in_ok-push.ensures.ok, c.in_ok-try_reserve.ensures.items)
    (zip2-append string_entry s.valid.items (c.is_some.result ∷ []) s.texts (c.unwrap_or.result.now ∷ []) c.self.invariant
    ∙ ap (λ l. l ++ string_entry c.is_some.result c.unwrap_or.result.now ∷ []) c.self.view_is
    ∙ ap (λ r. c.args.self.now ++ r ∷ []) (entry_of_text c.args.row _ c.is_some.ensures c.unwrap_or.ensures))
