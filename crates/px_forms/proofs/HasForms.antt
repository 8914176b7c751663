-- Each tree that is checked has a form.
use Rattle.std.proofs.Common.{◌≡◌, ℕ, ℤ, pos, List, [], ◌∷◌, map, Bool, true, false, cond, Option, Some, None, is_some, option_map, Ok, refl, subst}
use Rattle.std.specs.Prelude.{IsTrue, IsSome}
use Rattle.std.specs.List.{All}
use Rattle.std.proofs.lemmas.List.Elements.{All-head, All-tail}
use Rattle.serde_json.specs.Data.{Data}
use Rattle.px_types.specs.Classes.{is_boolean_or_integer}
use Rattle.px_semantics.specs.Columns.{IsColumn, is_column}
use Rattle.px_semantics.specs.Rows.{IntegerValue, Contents}
use Rattle.px_types.specs.ValueTypes.{holds, value_type_of}
use Rattle.px_types.specs.declared.dtype.DataType.{DataType}
use Rattle.px_types.specs.declared.type_parts.CastOptions.{CastOptions}
use Rattle.px_types.specs.declared.value_type.ValueType.{ValueType}
use Rattle.px_types.specs.declared.value_type.ValueType.TheVariants as value_type
use Rattle.px_semantics.proofs.CastLemmas.{holds_decides}
use Rattle.px_semantics.proofs.ColumnLemmas.{is_column-column}
use Rattle.px_expr.specs.Plan.{Catalog}
use Rattle.px_expr.specs.Tree.{Node, Alias, Column, Literal, Binary, Cast, Ternary, Function, Tree, Trees, fold_trees}
use Rattle.px_expr.specs.declared.literal.LiteralValue.{LiteralValue}
use Rattle.px_expr.specs.declared.literal.LiteralValue.TheVariants as lit
use Rattle.px_meaning.specs.Check.{IsChecked, resolve}
use Rattle.px_meaning.specs.Literals.{literal_rows, one_row}
use Rattle.px_meaning.specs.Signatures.{OfType, literal_type, signature, cast_type}
use Rattle.px_meaning.proofs.Answers.{given-parts}
use Rattle.px_meaning.proofs.Types.{alias-types, literal-types, binary-types, cast-types, ternary-types}
use Rattle.px_meaning.proofs.Typing.{Has, HaveAll, has, have_none, have_more, HasType-Has, column-parts}
use Rattle.px_json.specs.JsonAccess.{◌>>=◌, all_of}
use Rattle.px_forms.specs.Written.{number_data, literal_data, node_data, data_of, all_data, has_form}

is_some-map : {A B : Type 0} (f : A → B) (o : Option A) → is_some o ≡ true → is_some (option_map f o) ≡ true
is_some-map f (Some a) e = refl
is_some-map f None e = cc

is_some-two : {A B C : Type 0} (f : A → B → C) (x : Option A) (y : Option B) → is_some x ≡ true → is_some y ≡ true → is_some (x >>= (λ a. y >>= (λ b. Some (f a b)))) ≡ true
is_some-two f (Some a) (Some b) d e = refl
is_some-two f (Some a) None d e = cc
is_some-two f None y d e = cc

is_some-three : {A B C D : Type 0} (f : A → B → C → D) (x : Option A) (y : Option B) (z : Option C) → is_some x ≡ true → is_some y ≡ true → is_some z ≡ true
    → is_some (x >>= (λ a. y >>= (λ b. z >>= (λ c. Some (f a b c))))) ≡ true
is_some-three f (Some a) (Some b) (Some c) d e g = refl
is_some-three f (Some a) (Some b) None d e g = cc
is_some-three f (Some a) None z d e g = cc
is_some-three f None y z d e g = cc

-- a value for each type
abbrev AreThere : List ValueType → List (Option Data) → Type 0
AreThere [] [] = Unit {0}
AreThere (k ∷ ks) (o ∷ os) = (is_some o ≡ true) × AreThere ks os
AreThere _ _ = ⊥

is_some-all : (ks : List ValueType) (os : List (Option Data)) → AreThere ks os → is_some (all_of os) ≡ true
is_some-all [] [] h = refl
is_some-all (k ∷ ks) (Some d ∷ os) h = is_some-map _ (all_of os) (is_some-all ks os h.1)
is_some-all (k ∷ ks) (None ∷ os) h = let e = h.0 in cc
is_some-all [] (o ∷ os) h = absurd h
is_some-all (k ∷ ks) [] h = absurd h

-- the type of a literal holds its number
number_form : (j : ValueType) (z : ℤ) (k : ValueType) → literal_type (Some (one_row j (Some (IntegerValue z)))) ≡ Some k → is_some (number_data j z) ≡ true
number_form j z k e =
    let (whole, same) = given-parts (is_column (one_row j (Some (IntegerValue z)))) j k e in
    let column : IsColumn (one_row j (Some (IntegerValue z))) = is_column-column (one_row j (Some (IntegerValue z))) whole in
    let held : holds j z ≡ true = (holds_decides j z).1 column.typed.0 in
    rw held refl

series_form : (c : Contents) (b : Bool) (k : ValueType) → literal_type (cond b (Some c.values) None) ≡ Some k → is_some (literal_data (lit.Series c)) ≡ true
series_form c true k e = let (whole, same) = given-parts (is_column c.values) c.values.value_type k e in rw whole refl
series_form c false k e = cc

literal_form : (v : LiteralValue) (k : ValueType) → literal_type (literal_rows v) ≡ Some k → is_some (literal_data v) ≡ true
literal_form lit.Null k e = refl
literal_form (lit.Boolean t) k e = refl
literal_form (lit.UInt8 n) k e = number_form value_type.UInt8 (pos n) k e
literal_form (lit.UInt16 n) k e = number_form value_type.UInt16 (pos n) k e
literal_form (lit.UInt32 n) k e = number_form value_type.UInt32 (pos n) k e
literal_form (lit.UInt64 n) k e = number_form value_type.UInt64 (pos n) k e
literal_form (lit.Int8 z) k e = number_form value_type.Int8 z k e
literal_form (lit.Int16 z) k e = number_form value_type.Int16 z k e
literal_form (lit.Int32 z) k e = number_form value_type.Int32 z k e
literal_form (lit.Int64 z) k e = number_form value_type.Int64 z k e
literal_form (lit.Series c) k e = series_form c (is_boolean_or_integer c.values.value_type) k e
literal_form (lit.String text) k e = refl
literal_form (lit.Binary bytes) k e = cc
literal_form (lit.Int128 z) k e = cc
literal_form (lit.Range low high dtype) k e = cc
literal_form (lit.Int z) k e = cc
literal_form (lit.StrCat text) k e = cc

cast_value_type : (o : Option ValueType) (j k : ValueType) → cast_type o j ≡ Some k → is_some o ≡ true
cast_value_type (Some to) j k e = refl
cast_value_type None j k e = cc

leaf_form : (n : Node) (ks : List ValueType) (os : List (Option Data)) → ks ≡ [] → AreThere ks os → is_some (node_data n []) ≡ true → is_some (node_data n os) ≡ true
leaf_form n ks [] e h form = form
leaf_form n ks (o ∷ os) e h form = absurd (subst (λ (z : List ValueType). AreThere z (o ∷ os)) e h)

alias_form : (name : List ℕ) (k : ValueType) (os : List (Option Data)) → AreThere (k ∷ []) os → is_some (node_data (Alias name) os) ≡ true
alias_form name k (x ∷ []) h = is_some-map _ x h.0
alias_form name k [] h = absurd h
alias_form name k (x ∷ y ∷ os) h = absurd h.1

binary_form : (n : Node) (j : ValueType) (os : List (Option Data)) → AreThere (j ∷ j ∷ []) os → ((x y : Option Data) → is_some x ≡ true → is_some y ≡ true → is_some (node_data n (x ∷ y ∷ [])) ≡ true) → is_some (node_data n os) ≡ true
binary_form n j (x ∷ y ∷ []) h form = form x y h.0 h.1.0
binary_form n j [] h form = absurd h
binary_form n j (x ∷ []) h form = absurd h.1
binary_form n j (x ∷ y ∷ z ∷ os) h form = absurd h.1.1

cast_form : (dtype : DataType) (options : CastOptions) (j : ValueType) (os : List (Option Data)) → is_some (value_type_of dtype) ≡ true → AreThere (j ∷ []) os → is_some (node_data (Cast dtype options) os) ≡ true
cast_form dtype options j (x ∷ []) e h = is_some-two _ (value_type_of dtype) x e h.0
cast_form dtype options j [] e h = absurd h
cast_form dtype options j (x ∷ y ∷ os) e h = absurd h.1

ternary_form : (k : ValueType) (os : List (Option Data)) → AreThere (value_type.Boolean ∷ k ∷ k ∷ []) os → is_some (node_data Ternary os) ≡ true
ternary_form k (x ∷ y ∷ z ∷ []) h = is_some-three _ x y z h.0 h.1.0 h.1.1.0
ternary_form k [] h = absurd h
ternary_form k (x ∷ []) h = absurd h.1
ternary_form k (x ∷ y ∷ []) h = absurd h.1.1
ternary_form k (x ∷ y ∷ z ∷ w ∷ os) h = absurd h.1.1.1

-- what holds of the types that are wanted holds of those that are there
with_types : (ks js : List ValueType) (os : List (Option Data)) → ks ≡ js → AreThere ks os → AreThere js os
with_types ks js os e h = subst (λ (z : List ValueType). AreThere z os) e h

-- a node that takes its inputs as they are has a form where they have one
node_form : (c : Catalog) (n : Node) (ks : List ValueType) (k : ValueType) (os : List (Option Data)) → AreThere ks os → resolve c n (map OfType ks) ≡ Ok (record { inputs = ks; result = k }) → is_some (node_data n os) ≡ true
unfolding signature
node_form c (Alias name) ks k os h e = alias_form name k os (with_types ks (k ∷ []) os (alias-types c name ks k e) h)
node_form c (Column name) ks k os h e =
    let at = column-parts c name (map OfType ks) (record { inputs = ks; result = k }) e in
    leaf_form (Column name) ks os (no_types ks at.alone) h refl
  where
    no_types : (ks : List ValueType) → map OfType ks ≡ [] → ks ≡ []
    no_types [] e = refl
    no_types (k ∷ ks) e = cc
node_form c (Literal v) ks k os h e =
    let (alone, type) = literal-types c v ks k e in
    leaf_form (Literal v) ks os alone h (literal_form v k type)
node_form c (Binary op) ks k os h e =
    let (j, are, type) = binary-types c op ks k e in
    binary_form (Binary op) j os (with_types ks (j ∷ j ∷ []) os are h) (λ x y. is_some-two _ x y)
node_form c (Cast dtype options) ks k os h e =
    let (j, are, type) = cast-types c dtype options ks k e in
    cast_form dtype options j os (cast_value_type (value_type_of dtype) j k type) (with_types ks (j ∷ []) os are h)
node_form c Ternary ks k os h e = ternary_form k os (with_types ks (value_type.Boolean ∷ k ∷ k ∷ []) os (ternary-types c ks k e) h)
node_form c (Function f) ks k os h e = is_some-map _ (all_of os) (is_some-all ks os h)
node_form c _ ks k os h e = cc

module _ (c : Catalog) where
  mutual
    Has-form : (t : Tree) (k : ValueType) → Has c t k → is_some (data_of t) ≡ true
    Has-form _ k (has {n} {us} {ks} free all signed) = node_form c n ks k (fold_trees node_data us) (HaveAll-forms us ks all) signed

    HaveAll-forms : (us : Trees) (ks : List ValueType) → HaveAll c us ks → AreThere ks (fold_trees node_data us)
    HaveAll-forms _ _ have_none = tt
    HaveAll-forms _ _ (have_more {u} {us} {k} {ks} h all) = (Has-form u k h, HaveAll-forms us ks all)

pub checked_has_form : (c : Catalog) (t : Tree) → IsChecked c t → IsTrue (has_form t)
checked_has_form c t (k, h) = Has-form c t k (HasType-Has c t k h)

is_some-more : {A : Type 0} (o : Option A) (os : List (Option A)) → is_some o ≡ true → is_some (all_of os) ≡ true → is_some (all_of (o ∷ os)) ≡ true
is_some-more (Some a) os e f = is_some-map _ (all_of os) f
is_some-more None os e f = cc

pub checked_list_has_forms : (c : Catalog) (ts : List Tree) → All (IsChecked c) ts → IsSome (all_data ts)
checked_list_has_forms c [] h = refl
checked_list_has_forms c (t ∷ ts) h =
    is_some-more (data_of t) (map data_of ts) (checked_has_form c t (All-head (IsChecked c) t ts h)) (checked_list_has_forms c ts (All-tail (IsChecked c) t ts h))
