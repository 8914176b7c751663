-- What the parts that a node shows say of the tree that its place denotes.
use Rattle.std.proofs.Common.{◌≡◌, ℕ, List, [], ◌∷◌, Bool, true, false, Option, Some, None, refl, sym, ◌∙◌, ap, subst}
use Rattle.std.specs.List.{slice_get}
use Rattle.std.proofs.lemmas.Option.{same_Some}
use Rattle.px_functions.specs.declared.evaluated.EvaluatedBoolean.{EvaluatedBoolean}
use Rattle.px_functions.specs.declared.evaluated.EvaluatedBoolean.TheVariants as boolean
use Rattle.px_functions.specs.declared.evaluated.EvaluatedFunction.{EvaluatedFunction}
use Rattle.px_functions.specs.declared.evaluated.EvaluatedFunction.TheVariants as function
use Rattle.px_functions.specs.declared.function.FunctionExpr.{FunctionExpr}
use Rattle.px_functions.specs.Evaluated.{evaluated}
use Rattle.px_types.specs.declared.operator.Operator.{Operator}
use Rattle.px_types.specs.declared.options.FunctionOptions.{FunctionOptions}
use Rattle.px_expr.specs.declared.literal.LiteralValue.{LiteralValue}
use Rattle.px_expr.specs.declared.literal.LiteralValue.TheVariants as lit
use Rattle.px_expr.specs.Tree.{Node as Root, Function, node_for, function_node, Binary, Literal, Tree, tree, Trees, none, more, over}
use Rattle.px_meaning.specs.Check.{literal}
use Rattle.px_meaning.specs.Rewrites.{binary, call, not_tree, truth}
use Rattle.px_arena.specs.declared.node.AExpr.{AExpr}
use Rattle.px_arena.specs.declared.node.AExpr.TheVariants as ir
use Rattle.px_arena.specs.declared.node.ExprIR.{ExprIR}
use Rattle.px_arena.specs.declared.node.Node.{Node}
use Rattle.px_arena.specs.Denotes.{root_of, inputs_of, expr_places, Denotes, DenoteAll, IsIn, first, later}
use Rattle.px_arena.proofs.Reading.{Holds, holds}
use Rattle.px_rules.specs.declared.views.BinaryParts.{BinaryParts}
use Rattle.px_rules.specs.declared.views.BooleanCall.{BooleanCall}
use Rattle.px_rules.proofs.FunctionNodes.{is_function, is_function-node, node-evaluated}
use Rattle.px_rules.specs.Views.{binary_of, boolean_of, boolean_over, call_over, if_not, option_not, not_of, boolean_literal_of, literal_of, only_place, negated_place, negate_of}

-- a place that holds a node of one input
pub reads_one :
    (items : List AExpr) (n : ℕ) (x : AExpr) (k : Root) (a : ℕ) (t : Tree) → Denotes items n t → slice_get items n ≡ Some x →
    root_of x ≡ k → inputs_of x ≡ a ∷ [] → (u : Tree) × (t ≡ over k (u ∷ [])) × Denotes items a u
reads_one items n x k a t d at r i =
    let h = holds items n x t d at in
    go h (parts h.inputs (subst (λ (z : List ℕ). DenoteAll items z h.inputs) i h.denote))
  where
    parts : (us : Trees) → DenoteAll items (a ∷ []) us → (u : Tree) × (us ≡ more u none) × Denotes items a u
    parts none ds = absurd ds
    parts (more u none) (d', ds) = (u, refl, d')
    parts (more u (more v vs)) (d', ds) = absurd ds

    go : (h : Holds items x t) → (u : Tree) × (h.inputs ≡ more u none) × Denotes items a u → (u : Tree) × (t ≡ over k (u ∷ [])) × Denotes items a u
    go h (u, e, du) = (u, h.whole ∙ ap (λ (z : Root). tree z h.inputs) r ∙ ap (tree k) e, du)

-- a place that holds a node of two inputs
pub reads_two :
    (items : List AExpr) (n : ℕ) (x : AExpr) (k : Root) (a b : ℕ) (t : Tree) → Denotes items n t → slice_get items n ≡ Some x →
    root_of x ≡ k → inputs_of x ≡ a ∷ b ∷ [] → (u : Tree) × (v : Tree) × (t ≡ over k (u ∷ v ∷ [])) × Denotes items a u × Denotes items b v
reads_two items n x k a b t d at r i =
    let h = holds items n x t d at in
    go h (parts h.inputs (subst (λ (z : List ℕ). DenoteAll items z h.inputs) i h.denote))
  where
    parts : (us : Trees) → DenoteAll items (a ∷ b ∷ []) us → (u : Tree) × (v : Tree) × (us ≡ more u (more v none)) × Denotes items a u × Denotes items b v
    parts none ds = absurd ds
    parts (more u none) (d', ds) = absurd ds
    parts (more u (more v none)) (d', (e', ds)) = (u, v, refl, d', e')
    parts (more u (more v (more w ws))) (d', (e', ds)) = absurd ds

    go : (h : Holds items x t) → (u : Tree) × (v : Tree) × (h.inputs ≡ more u (more v none)) × Denotes items a u × Denotes items b v →
        (u : Tree) × (v : Tree) × (t ≡ over k (u ∷ v ∷ [])) × Denotes items a u × Denotes items b v
    go h (u, v, e, du, dv) = (u, v, h.whole ∙ ap (λ (z : Root). tree z h.inputs) r ∙ ap (tree k) e, du, dv)

-- a place that holds a leaf
pub reads_leaf :
    (items : List AExpr) (n : ℕ) (x : AExpr) (k : Root) (t : Tree) → Denotes items n t → slice_get items n ≡ Some x →
    root_of x ≡ k → inputs_of x ≡ [] → t ≡ over k []
reads_leaf items n x k t d at r i =
    let h = holds items n x t d at in
    go h (parts h.inputs (subst (λ (z : List ℕ). DenoteAll items z h.inputs) i h.denote))
  where
    parts : (us : Trees) → DenoteAll items [] us → us ≡ none
    parts none ds = refl
    parts (more u us) ds = absurd ds

    go : (h : Holds items x t) → h.inputs ≡ none → t ≡ over k []
    go h e = h.whole ∙ ap (λ (z : Root). tree z h.inputs) r ∙ ap (tree k) e

-- operators

pub binary_is : (x : AExpr) (p : BinaryParts) → binary_of x ≡ Some p → x ≡ ir.BinaryExpr p.left p.op p.right
binary_is (ir.BinaryExpr l o r) p e = ap (λ (q : BinaryParts). ir.BinaryExpr q.left q.op q.right) (same_Some (record { left = l; op = o; right = r }) p e)
binary_is _ p e = cc

pub record ReadsBinary (items : List AExpr) (x : AExpr) (p : BinaryParts) (t : Tree) : Type 0 where
  pub left : Tree
  pub right : Tree
  pub whole : t ≡ binary p.op left right
  pub of_left : Denotes items p.left.0 left
  pub of_right : Denotes items p.right.0 right
  pub left_in : IsIn p.left.0 (inputs_of x)
  pub right_in : IsIn p.right.0 (inputs_of x)

pub reads_binary :
    (items : List AExpr) (n : ℕ) (x : AExpr) (p : BinaryParts) (t : Tree) → Denotes items n t → slice_get items n ≡ Some x → binary_of x ≡ Some p → ReadsBinary items x p t
reads_binary items n x p t d at e =
    let is : x ≡ ir.BinaryExpr p.left p.op p.right = binary_is x p e in
    let r : root_of x ≡ Binary p.op = ap root_of is in
    let i : inputs_of x ≡ p.left.0 ∷ p.right.0 ∷ [] = ap inputs_of is in
    let (u, v, whole, du, dv) = reads_two items n x (Binary p.op) p.left.0 p.right.0 t d at r i in
    record {
      left = u;
      right = v;
      whole = whole;
      of_left = du;
      of_right = dv;
      left_in = subst (λ (ns : List ℕ). IsIn p.left.0 ns) (sym i) first;
      right_in = subst (λ (ns : List ℕ). IsIn p.right.0 ns) (sym i) (later first);
    }

is_binary :
    (items : List AExpr) (x : AExpr) (o : Operator) (a b : Tree) → root_of x ≡ Binary o → DenoteAll items (inputs_of x) (more a (more b none)) →
    (p : BinaryParts) × (binary_of x ≡ Some p) × (p.op ≡ o) × Denotes items p.left.0 a × Denotes items p.right.0 b
is_binary items (ir.BinaryExpr l q r) o a b e (da, (db, ds)) = let same : q ≡ o = cc in (record { left = l; op = q; right = r }, refl, same, da, db)
is_binary items (ir.Function input f own) o a b e ds = let h : false ≡ true = sym (ap is_function e) ∙ is_function-node f in cc
is_binary items _ o a b e ds = cc

pub shows_binary :
    (items : List AExpr) (n : ℕ) (x : AExpr) (o : Operator) (a b : Tree) → Denotes items n (binary o a b) → slice_get items n ≡ Some x →
    (p : BinaryParts) × (binary_of x ≡ Some p) × (p.op ≡ o) × Denotes items p.left.0 a × Denotes items p.right.0 b
shows_binary items n x o a b (y, at', root, ins) at =
    let e : y ≡ x = same_Some y x (sym at' ∙ at) in
    is_binary items x o a b (sym (ap root_of e) ∙ root) (subst (λ (z : AExpr). DenoteAll items (inputs_of z) (more a (more b none))) e ins)

-- functions over one input

record IsCall (x : AExpr) (k : BooleanCall) : Type 0 where
  root : root_of x ≡ Function (function.Boolean k.function)
  inputs : inputs_of x ≡ k.input.0 ∷ []

call_places : (f : EvaluatedBoolean) (own : FunctionOptions) (es : List ExprIR) (k : BooleanCall) → call_over f own es ≡ Some k → (f ≡ k.function) × (expr_places es ≡ k.input.0 ∷ [])
call_places f own [] k e = cc
call_places f own (p ∷ []) k e =
    let same = same_Some (record { function = f; input = p.0; options = own }) k e in
    (ap (λ (q : BooleanCall). q.function) same, ap (λ (q : BooleanCall). q.input.0 ∷ []) same)
call_places f own (p ∷ (q ∷ es)) k e = cc

call_is : (x : AExpr) (k : BooleanCall) → boolean_of x ≡ Some k → IsCall x k
call_is (ir.Function input g own) k e = go (evaluated g) refl e
  where
    go : (o : Option EvaluatedFunction) → evaluated g ≡ o → boolean_over o own input.entries ≡ Some k → IsCall (ir.Function input g own) k
    go (Some (function.Boolean f)) is h =
        let (a, b) = call_places f own input.entries k h in
        record { root = ap (node_for g) is ∙ ap (λ (f : EvaluatedBoolean). Function (function.Boolean f)) a; inputs = b }
    go _ is h = cc
call_is _ k e = cc

pub record ReadsCall (items : List AExpr) (x : AExpr) (k : BooleanCall) (t : Tree) : Type 0 where
  pub under : Tree
  pub whole : t ≡ call (function.Boolean k.function) under
  pub denotes : Denotes items k.input.0 under
  pub is_input : IsIn k.input.0 (inputs_of x)

pub reads_call :
    (items : List AExpr) (n : ℕ) (x : AExpr) (k : BooleanCall) (t : Tree) → Denotes items n t → slice_get items n ≡ Some x → boolean_of x ≡ Some k → ReadsCall items x k t
reads_call items n x k t d at e =
    let is = call_is x k e in
    let (u, whole, du) = reads_one items n x (Function (function.Boolean k.function)) k.input.0 t d at is.root is.inputs in
    record { under = u; whole = whole; denotes = du; is_input = subst (λ (ns : List ℕ). IsIn k.input.0 ns) (sym is.inputs) first }

is_call :
    (items : List AExpr) (x : AExpr) (f : EvaluatedBoolean) (u : Tree) → root_of x ≡ Function (function.Boolean f) → DenoteAll items (inputs_of x) (more u none) →
    (k : BooleanCall) × (boolean_of x ≡ Some k) × (k.function ≡ f) × Denotes items k.input.0 u
is_call items (ir.Function input g own) f u r ds = go input.entries ds
  where
    is : evaluated g ≡ Some (function.Boolean f)
    is = node-evaluated g (function.Boolean f) r

    go : (es : List ExprIR) → DenoteAll items (expr_places es) (more u none) → (k : BooleanCall) × (boolean_over (evaluated g) own es ≡ Some k) × (k.function ≡ f) × Denotes items k.input.0 u
    go [] ds = absurd ds
    go (p ∷ []) (d, ds) = (record { function = f; input = p.0; options = own }, ap (λ (o : Option EvaluatedFunction). boolean_over o own (p ∷ [])) is, refl, d)
    go (p ∷ (q ∷ es)) (d, ds) = absurd ds
is_call items _ f u r ds = cc

pub shows_call :
    (items : List AExpr) (n : ℕ) (x : AExpr) (f : EvaluatedBoolean) (u : Tree) → Denotes items n (call (function.Boolean f) u) → slice_get items n ≡ Some x →
    (k : BooleanCall) × (boolean_of x ≡ Some k) × (k.function ≡ f) × Denotes items k.input.0 u
shows_call items n x f u (y, at', root, ins) at =
    let e : y ≡ x = same_Some y x (sym at' ∙ at) in
    is_call items x f u (sym (ap root_of e) ∙ root) (subst (λ (z : AExpr). DenoteAll items (inputs_of z) (more u none)) e ins)

-- a `not`

kept_not : (f : EvaluatedBoolean) (k l : BooleanCall) → if_not f k ≡ Some l → (k ≡ l) × (f ≡ boolean.Not)
kept_not boolean.Not k l e = (same_Some k l e, refl)
kept_not _ k l e = cc

pub negated_is : (x : AExpr) (k : BooleanCall) → not_of x ≡ Some k → (boolean_of x ≡ Some k) × (k.function ≡ boolean.Not)
negated_is x k e = go (boolean_of x) refl e
  where
    go : (o : Option BooleanCall) → boolean_of x ≡ o → option_not o ≡ Some k → (boolean_of x ≡ Some k) × (k.function ≡ boolean.Not)
    go None f h = cc
    go (Some l) f h = let (same, is) = kept_not l.function l k h in (f ∙ ap Some same, sym (ap (λ (q : BooleanCall). q.function) same) ∙ is)

pub reads_negated :
    (items : List AExpr) (n : ℕ) (x : AExpr) (k : BooleanCall) (t : Tree) → Denotes items n t → slice_get items n ≡ Some x → not_of x ≡ Some k →
    (u : Tree) × (t ≡ not_tree u) × Denotes items k.input.0 u × IsIn k.input.0 (inputs_of x)
reads_negated items n x k t d at e =
    let (is, fun) = negated_is x k e in
    let r = reads_call items n x k t d at is in
    (r.under, r.whole ∙ ap (λ (f : EvaluatedBoolean). call (function.Boolean f) r.under) fun, r.denotes, r.is_input)

pub shows_negated :
    (items : List AExpr) (n : ℕ) (x : AExpr) (u : Tree) → Denotes items n (not_tree u) → slice_get items n ≡ Some x →
    (k : BooleanCall) × (not_of x ≡ Some k) × Denotes items k.input.0 u
shows_negated items n x u d at =
    let (k, is, fun, du) = shows_call items n x boolean.Not u d at in
    (k, ap option_not is ∙ ap (λ (f : EvaluatedBoolean). if_not f k) fun, du)

-- literals

pub boolean_is : (x : AExpr) (t : Bool) → boolean_literal_of x ≡ Some t → x ≡ ir.Literal (lit.Boolean t)
boolean_is (ir.Literal (lit.Boolean s)) t e = ap (λ (q : Bool). ir.Literal (lit.Boolean q)) (same_Some s t e)
boolean_is _ t e = cc

pub reads_boolean : (items : List AExpr) (n : ℕ) (x : AExpr) (b : Bool) (t : Tree) → Denotes items n t → slice_get items n ≡ Some x → boolean_literal_of x ≡ Some b → t ≡ truth b
reads_boolean items n x b t d at e =
    let is : x ≡ ir.Literal (lit.Boolean b) = boolean_is x b e in
    reads_leaf items n x (Literal (lit.Boolean b)) t d at (ap root_of is) (ap inputs_of is)

is_boolean : (x : AExpr) (b : Bool) → root_of x ≡ Literal (lit.Boolean b) → boolean_literal_of x ≡ Some b
is_boolean (ir.Literal (lit.Boolean s)) b e = let same : s ≡ b = cc in ap Some same
is_boolean (ir.Function input f own) b e = let h : false ≡ true = sym (ap is_function e) ∙ is_function-node f in cc
is_boolean _ b e = cc

pub shows_boolean : (items : List AExpr) (n : ℕ) (x : AExpr) (b : Bool) → Denotes items n (truth b) → slice_get items n ≡ Some x → boolean_literal_of x ≡ Some b
shows_boolean items n x b (y, at', root, ins) at =
    let e : y ≡ x = same_Some y x (sym at' ∙ at) in
    is_boolean x b (sym (ap root_of e) ∙ root)

-- an operator is no call
pub binary_no_call : (x : AExpr) (p : BinaryParts) → binary_of x ≡ Some p → boolean_of x ≡ None
binary_no_call x p e = ap boolean_of (binary_is x p e)

-- any literal

pub literal_is : (x : AExpr) (v : LiteralValue) → literal_of x ≡ Some v → x ≡ ir.Literal v
literal_is (ir.Literal w) v e = ap ir.Literal (same_Some w v e)
literal_is _ v e = cc

pub reads_literal : (items : List AExpr) (n : ℕ) (x : AExpr) (v : LiteralValue) (t : Tree) → Denotes items n t → slice_get items n ≡ Some x → literal_of x ≡ Some v → t ≡ literal v
reads_literal items n x v t d at e =
    let is : x ≡ ir.Literal v = literal_is x v e in
    reads_leaf items n x (Literal v) t d at (ap root_of is) (ap inputs_of is)

is_literal_node : (x : AExpr) (v : LiteralValue) → root_of x ≡ Literal v → literal_of x ≡ Some v
is_literal_node (ir.Literal w) v e = let same : w ≡ v = cc in ap Some same
is_literal_node (ir.Function input f own) v e = let h : false ≡ true = sym (ap is_function e) ∙ is_function-node f in cc
is_literal_node _ v e = cc

pub shows_literal : (items : List AExpr) (n : ℕ) (x : AExpr) (v : LiteralValue) → Denotes items n (literal v) → slice_get items n ≡ Some x → literal_of x ≡ Some v
shows_literal items n x v (y, at', root, ins) at =
    let e : y ≡ x = same_Some y x (sym at' ∙ at) in
    is_literal_node x v (sym (ap root_of e) ∙ root)

-- a minus

record IsNegate (x : AExpr) (a : Node) : Type 0 where
  root : root_of x ≡ Function function.Negate
  inputs : inputs_of x ≡ a.0 ∷ []

only_places : (es : List ExprIR) (a : Node) → only_place es ≡ Some a → expr_places es ≡ a.0 ∷ []
only_places [] a e = cc
only_places (p ∷ []) a e = ap (λ (n : Node). n.0 ∷ []) (same_Some p.0 a e)
only_places (p ∷ (q ∷ es)) a e = cc

negate_is : (x : AExpr) (a : Node) → negate_of x ≡ Some a → IsNegate x a
negate_is (ir.Function input g own) a e = go (evaluated g) refl e
  where
    go : (o : Option EvaluatedFunction) → evaluated g ≡ o → negated_place o input.entries ≡ Some a → IsNegate (ir.Function input g own) a
    go (Some function.Negate) is h = record { root = ap (node_for g) is; inputs = only_places input.entries a h }
    go _ is h = cc
negate_is _ a e = cc

pub reads_negate :
    (items : List AExpr) (n : ℕ) (x : AExpr) (a : Node) (t : Tree) → Denotes items n t → slice_get items n ≡ Some x → negate_of x ≡ Some a →
    (u : Tree) × (t ≡ call function.Negate u) × Denotes items a.0 u
reads_negate items n x a t d at e = let is = negate_is x a e in reads_one items n x (Function function.Negate) a.0 t d at is.root is.inputs

is_negate :
    (items : List AExpr) (x : AExpr) (u : Tree) → root_of x ≡ Function function.Negate → DenoteAll items (inputs_of x) (more u none) →
    (a : Node) × (negate_of x ≡ Some a) × Denotes items a.0 u
is_negate items (ir.Function input g own) u r ds = go input.entries ds
  where
    is : evaluated g ≡ Some function.Negate
    is = node-evaluated g function.Negate r

    go : (es : List ExprIR) → DenoteAll items (expr_places es) (more u none) → (a : Node) × (negated_place (evaluated g) es ≡ Some a) × Denotes items a.0 u
    go [] ds = absurd ds
    go (p ∷ []) (d, ds) = (p.0, ap (λ (o : Option EvaluatedFunction). negated_place o (p ∷ [])) is, d)
    go (p ∷ (q ∷ es)) (d, ds) = absurd ds
is_negate items _ u r ds = cc

pub shows_negate :
    (items : List AExpr) (n : ℕ) (x : AExpr) (u : Tree) → Denotes items n (call function.Negate u) → slice_get items n ≡ Some x → (a : Node) × (negate_of x ≡ Some a) × Denotes items a.0 u
shows_negate items n x u (y, at', root, ins) at =
    let e : y ≡ x = same_Some y x (sym at' ∙ at) in
    is_negate items x u (sym (ap root_of e) ∙ root) (subst (λ (z : AExpr). DenoteAll items (inputs_of z) (more u none)) e ins)
