use Rattle.std.proofs.Common.{◌≡◌, ◌∙◌, ℕ, List, [], ◌∷◌, ◌++◌, ap, sym, map, false, string_bytes}
use Rattle.std.specs.List.{list_any}
use Rattle.std.specs.Str.{bytes_eq}
use Rattle.px_types.specs.Schemas.{names_of, field_named}
use Rattle.px_types.proofs.SchemaLemmas.{fields-insert, first_repeated-push}
use Rattle.px_types.proofs.schema.Schema.push.Goals as goal

pub invariant_of-self-2 : goal.invariant_of-self-2
invariant_of-self-2 c =
    let fresh : list_any (bytes_eq (string_bytes c.into_string.result)) (names_of (map field_named c.self.inside.types.entries)) ≡ false = rw (c.into_string.ensures, ← c.as_str.ensures, c.self.view_is) (sym c.contains.ensures ∙ c.if-contains.false) in
    rw (fields-insert c.self.inside.types c.insert.new.self.entries c.into_string.result c.args.field.dtype fresh c.in_ok-insert.ensures.entries)
    (first_repeated-push (map field_named c.self.inside.types.entries) (field_named (c.into_string.result, c.args.field.dtype)) c.self.invariant fresh)

pub returns-clause-last : goal.returns-clause-last
returns-clause-last c =
    let fresh : list_any (bytes_eq (string_bytes c.into_string.result)) (names_of (map field_named c.self.inside.types.entries)) ≡ false = rw (c.into_string.ensures, ← c.as_str.ensures, c.self.view_is) (sym c.contains.ensures ∙ c.if-contains.false) in
    let before : map field_named c.self.inside.types.entries ≡ c.args.self.now = c.self.view_is in
    rw (← before)
    (fields-insert c.self.inside.types c.insert.new.self.entries c.into_string.result c.args.field.dtype fresh c.in_ok-insert.ensures.entries
    ∙ ap (λ (name : List ℕ). map field_named c.self.inside.types.entries ++ record c.args.field { name = name } ∷ []) c.into_string.ensures)
