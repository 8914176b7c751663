-- A map from names to types, looked up as the list of its fields.
use Rattle.std.proofs.Common.{◌≡◌, ◌∙◌, ◌+◌, ℕ, suc, Bool, not, nat_lt, true, false, cond, ◌||◌, List, [], ◌∷◌, ◌++◌, map, length, position, Option, Some, None, is_some, refl, sym, ap, string_bytes, append_assoc, append-nil, if◌then◌else◌}
use Rattle.std.proofs.lemmas.List.{map-append}
use Rattle.std.specs.List.{list_any, position_or_len}
use Rattle.std.specs.Str.{bytes_eq}
use Rattle.std.specs.Map.{keys_of, lookup}
use Rattle.std.specs.declared.string.String.{String}
use Rattle.std.specs.String.{string_eq}
use Rattle.indexmap.specs.IndexMap.{IndexMap, insert_entry}
use Rattle.indexmap.proofs.CallerLemmas.{insert_entry-new}
use Rattle.px_types.specs.declared.dtype.DataType.{DataType}
use Rattle.px_types.specs.declared.dtype.Field.{Field}
use Rattle.px_types.specs.Schemas.{names_of, dtype_at, field_named, first_repeated_after, first_repeated}

some_found : (b : Bool) (t : DataType) (o : Option DataType) (d : Bool) → is_some o ≡ d → is_some (cond b (Some t) o) ≡ (b || d)
some_found true t o d h = refl
some_found false t o d h = h

none_found : (o : Option DataType) → is_some o ≡ false → o ≡ None
none_found None h = refl
none_found (Some t) h = cc

unrepeated : (b : Bool) (n o p : Option (List ℕ)) → (o ≡ None → p ≡ None) → (if b then n else o) ≡ None → (if b then n else p) ≡ None
unrepeated true n o p f e = e
unrepeated false n o p f e = f e

-- names of which none is repeated, and one more name that is not among them
first_repeated_after-push : (before names : List (List ℕ)) (name : List ℕ) → first_repeated_after before names ≡ None → list_any (bytes_eq name) (before ++ names) ≡ false → first_repeated_after before (names ++ name ∷ []) ≡ None
first_repeated_after-push before [] name h a = ap (λ b. if b then Some name else None) (ap (list_any (bytes_eq name)) (sym (append-nil before)) ∙ a)
first_repeated_after-push before (n ∷ names) name h a =
    unrepeated (list_any (bytes_eq n) before) (Some n) _ _ (λ e. first_repeated_after-push (before ++ n ∷ []) names name e (ap (list_any (bytes_eq name)) (append_assoc before (n ∷ []) names) ∙ a)) h

pub first_repeated-push : (fields : List Field) (f : Field) → first_repeated (names_of fields) ≡ None → list_any (bytes_eq f.name) (names_of fields) ≡ false → first_repeated (names_of (fields ++ f ∷ [])) ≡ None
first_repeated-push fields f h a = ap first_repeated (map-append (λ (g : Field). g.name) fields (f ∷ [])) ∙ first_repeated_after-push [] (names_of fields) f.name h a

module _ {Y : Type 0} where
  -- the type under a name
  pub lookup-dtype : (name : List ℕ) (es : List (String Y × DataType)) → lookup (λ k. bytes_eq name (string_bytes k)) es ≡ dtype_at (map field_named es) name
  lookup-dtype name [] = refl
  lookup-dtype name (e ∷ es) = ap (λ o. cond (bytes_eq name (string_bytes e.0)) (Some e.1) o) (lookup-dtype name es)

  -- whether there is a type under a name
  pub lookup-any : (name : List ℕ) (es : List (String Y × DataType)) → is_some (lookup (λ k. bytes_eq name (string_bytes k)) es) ≡ list_any (bytes_eq name) (names_of (map field_named es))
  lookup-any name [] = refl
  lookup-any name (e ∷ es) = some_found (bytes_eq name (string_bytes e.0)) e.1 _ _ (lookup-any name es)

  -- the place of a name
  first-name : (name : List ℕ) (es : List (String Y × DataType)) → position_or_len (λ k. bytes_eq name (string_bytes k)) (keys_of es) ≡ position_or_len (bytes_eq name) (names_of (map field_named es))
  first-name name [] = refl
  first-name name (e ∷ es) = ap (λ n. cond (not (bytes_eq name (string_bytes e.0))) (1 + n) 0) (first-name name es)

  length-names : (es : List (String Y × DataType)) → length (keys_of es) ≡ length (names_of (map field_named es))
  length-names [] = refl
  length-names (e ∷ es) = ap suc (length-names es)

  pub position-names : (name : List ℕ) (es : List (String Y × DataType)) → position (λ k. bytes_eq name (string_bytes k)) (keys_of es) ≡ position (bytes_eq name) (names_of (map field_named es))
  position-names name es =
      ap (λ n. cond (nat_lt n (length (keys_of es))) (Some n) None) (first-name name es)
      ∙ ap (λ l. cond (nat_lt (position_or_len (bytes_eq name) (names_of (map field_named es))) l) (Some (position_or_len (bytes_eq name) (names_of (map field_named es)))) None) (length-names es)

  module _ {S : Type 0} (m : IndexMap (String Y) DataType S) (es : List (String Y × DataType)) (k : String Y) (t : DataType)
      (absent : list_any (bytes_eq (string_bytes k)) (names_of (map field_named m.entries)) ≡ false)
      (inserted : es ≡ insert_entry string_eq m.entries k t) where
    -- a field under a new name goes last
    pub fields-insert : map field_named es ≡ map field_named m.entries ++ field_named (k, t) ∷ []
    fields-insert = ap (map field_named) (inserted ∙ insert_entry-new string_eq m k t (none_found _ (lookup-any (string_bytes k) m.entries ∙ absent))) ∙ map-append field_named m.entries ((k, t) ∷ [])
