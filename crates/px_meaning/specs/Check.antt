-- The check of a tree against a catalog: the checked tree with its type, or the first fault. The inputs come
-- from left to right and then the node.
use Rattle.std.specs.Prelude.{ℕ, ◌≡◌, ℤ, if◌then◌else◌, List, [], ◌∷◌, map, Option, Some, None, option_map, option_and_then, Result, Ok, Err}
use Rattle.px_base.specs.declared.error.PlanError.{PlanError}
use Rattle.px_base.specs.declared.error.PlanError.TheVariants.{ColumnNotFound, InvalidOperation}
use Rattle.px_types.specs.declared.dtype.DataType.{DataType}
use Rattle.px_types.specs.declared.type_parts.CastOptions.TheVariants.{NonStrict}
use Rattle.px_types.specs.declared.value_type.ValueType.{ValueType}
use Rattle.px_types.specs.ValueTypes.{value_type_of, dtype_of, holds, default_type}
use Rattle.px_types.specs.Schemas.{dtype_at, first_repeated, unless_repeated}
use Rattle.px_expr.specs.declared.context.Context.{Context}
use Rattle.px_expr.specs.declared.context.Context.TheVariants.{Select, Filter}
use Rattle.px_expr.specs.declared.literal.LiteralValue.{LiteralValue}
use Rattle.px_expr.specs.declared.literal.LiteralValue.TheVariants as lit
use Rattle.px_expr.specs.Tree.{Node, Column, Literal, Cast, Tree, over, fold_tree}
use Rattle.px_semantics.specs.Rows.{is_boolean}
use Rattle.px_meaning.specs.Literals.{literal_of}
use Rattle.px_meaning.specs.Names.{name}
use Rattle.px_meaning.specs.Schema.{Schema}
use Rattle.px_expr.specs.Plan.{Catalog}
use Rattle.px_meaning.specs.Signatures.{Operand, OfType, UntypedInteger, Signature, signature, leaf, is_type, given, is_castable}

-- a tree that was checked, with its type
pub record Typed : Type 0 where
  pub tree : Tree
  pub value_type : ValueType

-- what is found at a place: a checked tree with its type, or an integer literal whose type the node above settles
pub data Found : Type 0 where
  Checked : Typed → Found
  Untyped : ℤ → Found

-- the answer, or the fault that came before
abbrev pub then_ : {A B : Type 0} → Result A PlanError → (A → Result B PlanError) → Result B PlanError
then_ (Ok a) f = f a
then_ (Err e) f = Err e

-- all answers, or the first fault
abbrev pub all_results : {A : Type 0} → List (Result A PlanError) → Result (List A) PlanError
all_results [] = Ok []
all_results (r ∷ rs) = then_ r (λ a. then_ (all_results rs) (λ as'. Ok (a ∷ as')))

-- a value, or the fault that there is none
abbrev pub or_fault : {A : Type 0} → PlanError → Option A → Result A PlanError
or_fault e (Some a) = Ok a
or_fault e None = Err e

abbrev pub operand_of : Found → Operand
operand_of (Checked t) = OfType t.value_type
operand_of (Untyped z) = UntypedInteger z

-- a literal as a tree
abbrev pub literal : LiteralValue → Tree
literal v = over (Literal v) []

-- the tree under an inserted cast
abbrev pub cast_tree : ValueType → Tree → Tree
cast_tree to t = over (Cast (dtype_of to) NonStrict) (t ∷ [])

-- an integer literal in its default type
abbrev pub default_literal : ℤ → Option ValueType → Tree
default_literal z (Some k) = literal (literal_of k z)
default_literal z None = literal (lit.Int z)

-- an input made what a signature wants: as it is where it has the type, else under a cast. An integer literal
-- gets the type where that holds it, else its default type.
abbrev pub coerced : ValueType → Found → Tree
coerced to (Checked t) = if is_type t.value_type to then t.tree else cast_tree to t.tree
coerced to (Untyped z) = if holds to z then literal (literal_of to z) else cast_tree to (default_literal z (default_type z))

abbrev pub coerced_all : List ValueType → List Found → List Tree
coerced_all (k ∷ ks) (f ∷ fs) = coerced k f ∷ coerced_all ks fs
coerced_all _ _ = []

-- the type of a column whose field has this one
-- core language only: no columns of texts
abbrev pub column_type : DataType → Option ValueType
column_type dtype = option_and_then (λ k. given (is_castable k) k) (value_type_of dtype)

abbrev pub column_signature : Schema → List ℕ → List Operand → Result Signature PlanError
column_signature s n os =
    then_ (or_fault (ColumnNotFound n) (dtype_at s n)) (λ dtype. or_fault InvalidOperation (option_and_then (λ k. leaf k os) (column_type dtype)))

-- the signature of a node over such inputs, or the node's own fault
abbrev pub resolve : Catalog → Node → List Operand → Result Signature PlanError
resolve c (Column n) os = column_signature c.schema n os
resolve c n os = or_fault InvalidOperation (signature c.kernels n os)

-- the node over its inputs as the signature wants them
abbrev pub made : Node → List Found → Signature → Found
made n inputs s = Checked (record { tree = over n (coerced_all s.inputs inputs); value_type = s.result })

-- what stands for a literal that the node above settles
abbrev pub deferred : Node → Option Found
deferred (Literal (lit.Int z)) = Some (Untyped z)
deferred _ = None

abbrev pub with_default_type_or : Option Found → Result Found PlanError → Result Found PlanError
with_default_type_or (Some f) r = Ok f
with_default_type_or None r = r

-- what is found at a node, from what is found at its inputs
abbrev pub find : Catalog → Node → List (Result Found PlanError) → Result Found PlanError
find c n answers = then_ (all_results answers) (λ inputs. with_default_type_or (deferred n) (then_ (resolve c n (map operand_of inputs)) (λ s. Ok (made n inputs s))))

abbrev pub found : Catalog → Tree → Result Found PlanError
found c = fold_tree (find c)

-- a whole tree that is an integer literal has its default type
abbrev pub with_default_type : Found → Result Typed PlanError
with_default_type (Checked t) = Ok t
with_default_type (Untyped z) = or_fault InvalidOperation (option_map (λ k. record { tree = literal (literal_of k z); value_type = k }) (default_type z))

-- the checked tree with its type, or the first fault
abbrev pub check : Catalog → Tree → Result Typed PlanError
check c t = then_ (found c t) with_default_type

-- the check gives the tree itself, with this type
abbrev pub HasType : Catalog → Tree → ValueType → Type 0
HasType c t k = check c t ≡ Ok (record { tree = t; value_type = k })

-- the check gives the tree itself
abbrev pub IsChecked : Catalog → Tree → Type 0
IsChecked c t = (k : ValueType) × HasType c t k

-- a mask is Boolean
abbrev pub as_asked : Context → Typed → Result Typed PlanError
as_asked Select t = Ok t
as_asked Filter t = or_fault InvalidOperation (given (is_boolean t.value_type) t)

-- in a select the names of the trees are distinct
abbrev pub with_names : Context → List Typed → Result (List Typed) PlanError
with_names Select ts = unless_repeated ts (first_repeated (map (λ (t : Typed). name t.tree) ts))
with_names Filter ts = Ok ts

-- the checked trees of a list, or the first fault; a name that comes twice after all other faults
abbrev pub check_list : Catalog → Context → List Tree → Result (List Typed) PlanError
check_list c context ts = then_ (all_results (map (λ t. then_ (check c t) (as_asked context)) ts)) (with_names context)
