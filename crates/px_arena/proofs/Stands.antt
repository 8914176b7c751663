-- A place stands for an expression where it holds the expression's node and its inputs stand for the inputs.
use Rattle.std.proofs.Common.{◌≡◌, ℕ, Bool, List, [], ◌∷◌, Some, None, refl, sym, ◌∙◌, ap, subst, map}
use Rattle.std.specs.List.{slice_get}
use Rattle.px_types.specs.declared.dtype.DataType.{DataType}
use Rattle.px_types.specs.declared.type_parts.CastOptions.{CastOptions}
use Rattle.px_types.specs.declared.operator.Operator.{Operator}
use Rattle.px_types.specs.declared.options.FunctionOptions.{FunctionOptions}
use Rattle.px_functions.specs.declared.function.FunctionExpr.{FunctionExpr}
use Rattle.px_base.specs.declared.list.List.{List as Entries}
use Rattle.px_expr.specs.declared.literal.LiteralValue.{LiteralValue}
use Rattle.px_expr.specs.declared.expr.Expr.{Expr, fold-roll-Expr}
use Rattle.px_expr.specs.declared.expr.Expr.TheVariants as expr
use Rattle.px_expr.specs.declared.expr.AggExpr.{fold-AggExpr, fold-roll-AggExpr}
use Rattle.px_expr.specs.declared.expr.AggExpr.TheVariants as agg
use Rattle.px_expr.specs.declared.expr.AggExpr.TheOpen.{Expr-F, AggExpr-F}
use Rattle.px_expr.specs.Tree.{Tree, tree, trees, tree_of, over, Aggregate, agg_layer, layer}
use Rattle.px_expr.specs.Tree as root
use Rattle.px_arena.specs.declared.node.AExpr.{AExpr}
use Rattle.px_arena.specs.declared.node.AExpr.TheVariants as ir
use Rattle.px_arena.specs.declared.node.ExprIR.{ExprIR}
use Rattle.px_arena.specs.declared.node.IRAggExpr.TheVariants as ir_agg
use Rattle.px_arena.specs.declared.node.Node.{Node}
use Rattle.px_arena.specs.Denotes.{root_of, inputs_of, expr_places, Denotes, DenoteAll, IsGrown}
use Rattle.px_arena.specs.Options.{Options, options, options_list, agg_options, layer_options, options_of, own_options, KeepsOptions, KeepAllOptions, OptionsList, none, more}
use Rattle.px_arena.specs.Lowered.{StandsFor, AllStandFor}
use Rattle.px_arena.proofs.Runs.{grown_denotes}

pub all_denote : (items : List AExpr) (ns : List ℕ) (es : List Expr) → AllStandFor items ns es → DenoteAll items ns (trees (map tree_of es))
all_denote items [] [] all = tt
all_denote items [] (e ∷ es) all = absurd all
all_denote items (n ∷ ns) [] all = absurd all
all_denote items (n ∷ ns) (e ∷ es) (one, all) = (one.0, all_denote items ns es all)

pub all_keep : (items : List AExpr) (ns : List ℕ) (es : List Expr) → AllStandFor items ns es → KeepAllOptions items ns (options_list (map options_of es))
all_keep items [] [] all = tt
all_keep items [] (e ∷ es) all = absurd all
all_keep items (n ∷ ns) [] all = absurd all
all_keep items (n ∷ ns) (e ∷ es) (one, all) = (one.1, all_keep items ns es all)

stands :
    (items : List AExpr) (n : ℕ) (x : AExpr) (e : Expr) (es : List Expr) →
    tree_of e ≡ over (root_of x) (map tree_of es) → options_of e ≡ options (own_options x) (options_list (map options_of es)) →
    slice_get items n ≡ Some x → AllStandFor items (inputs_of x) es → StandsFor items n e
stands items n x e es te oe at all =
    let denoted : Denotes items n (over (root_of x) (map tree_of es)) = (x, at, refl, all_denote items (inputs_of x) es all) in
    let kept : KeepsOptions items n (options (own_options x) (options_list (map options_of es))) = (x, at, refl, all_keep items (inputs_of x) es all) in
    (subst (λ (t : Tree). Denotes items n t) (sym te) denoted, subst (λ (o : Options). KeepsOptions items n o) (sym oe) kept)

mutual
  -- what a place keeps of its options in a growing arena
  options_grown : (old new : List AExpr) (n : ℕ) (o : Options) → IsGrown old new → KeepsOptions old n o → KeepsOptions new n o
  options_grown old new n (options own os) g (x, at, is, all) = (x, g.at n x tt at, is, all_options_grown old new (inputs_of x) os g all)

  all_options_grown : (old new : List AExpr) (ns : List ℕ) (os : OptionsList) → IsGrown old new → KeepAllOptions old ns os → KeepAllOptions new ns os
  all_options_grown old new [] none g all = tt
  all_options_grown old new [] (more o os) g all = absurd all
  all_options_grown old new (n ∷ ns) none g all = absurd all
  all_options_grown old new (n ∷ ns) (more o os) g (one, all) = (options_grown old new n o g one, all_options_grown old new ns os g all)

pub stands_grown : (old new : List AExpr) (n : ℕ) (e : Expr) → IsGrown old new → StandsFor old n e → StandsFor new n e
stands_grown old new n e g (d, k) = (grown_denotes old new n (tree_of e) g d, options_grown old new n (options_of e) g k)

pub all_stand_grown : (old new : List AExpr) (ns : List ℕ) (es : List Expr) → IsGrown old new → AllStandFor old ns es → AllStandFor new ns es
all_stand_grown old new [] [] g all = tt
all_stand_grown old new [] (e ∷ es) g all = absurd all
all_stand_grown old new (n ∷ ns) [] g all = absurd all
all_stand_grown old new (n ∷ ns) (e ∷ es) g (one, all) = (stands_grown old new n e g one, all_stand_grown old new ns es g all)

pub stands-Alias :
    (items : List AExpr) (n : ℕ) (a : Node) (ea : Expr) (name : List ℕ) →
    slice_get items n ≡ Some (ir.Alias a name) → AllStandFor items (a.0 ∷ []) (ea ∷ []) → StandsFor items n (expr.Alias ea name)
stands-Alias items n a ea name at all =
    stands items n (ir.Alias a name) (expr.Alias ea name) (ea ∷ [])
    (ap tree_of (sym (expr.rolls-Alias ea name)) ∙ fold-roll-Expr (Aggregate × List Tree) Tree agg_layer layer (Expr-F.Alias ea name))
    (ap options_of (sym (expr.rolls-Alias ea name)) ∙ fold-roll-Expr (List Options) Options agg_options layer_options (Expr-F.Alias ea name)) at all

pub stands-Column :
    (items : List AExpr) (n : ℕ) (name : List ℕ) →
    slice_get items n ≡ Some (ir.Column name) → AllStandFor items [] [] → StandsFor items n (expr.Column name)
stands-Column items n name at all =
    stands items n (ir.Column name) (expr.Column name) []
    (ap tree_of (sym (expr.rolls-Column name)) ∙ fold-roll-Expr (Aggregate × List Tree) Tree agg_layer layer (Expr-F.Column name))
    (ap options_of (sym (expr.rolls-Column name)) ∙ fold-roll-Expr (List Options) Options agg_options layer_options (Expr-F.Column name)) at all

pub stands-Literal :
    (items : List AExpr) (n : ℕ) (value : LiteralValue) →
    slice_get items n ≡ Some (ir.Literal value) → AllStandFor items [] [] → StandsFor items n (expr.Literal value)
stands-Literal items n value at all =
    stands items n (ir.Literal value) (expr.Literal value) []
    (ap tree_of (sym (expr.rolls-Literal value)) ∙ fold-roll-Expr (Aggregate × List Tree) Tree agg_layer layer (Expr-F.Literal value))
    (ap options_of (sym (expr.rolls-Literal value)) ∙ fold-roll-Expr (List Options) Options agg_options layer_options (Expr-F.Literal value)) at all

pub stands-BinaryExpr :
    (items : List AExpr) (n : ℕ) (a b : Node) (ea eb : Expr) (op : Operator) →
    slice_get items n ≡ Some (ir.BinaryExpr a op b) → AllStandFor items (a.0 ∷ b.0 ∷ []) (ea ∷ eb ∷ []) → StandsFor items n (expr.BinaryExpr ea op eb)
stands-BinaryExpr items n a b ea eb op at all =
    stands items n (ir.BinaryExpr a op b) (expr.BinaryExpr ea op eb) (ea ∷ eb ∷ [])
    (ap tree_of (sym (expr.rolls-BinaryExpr ea op eb)) ∙ fold-roll-Expr (Aggregate × List Tree) Tree agg_layer layer (Expr-F.BinaryExpr ea op eb))
    (ap options_of (sym (expr.rolls-BinaryExpr ea op eb)) ∙ fold-roll-Expr (List Options) Options agg_options layer_options (Expr-F.BinaryExpr ea op eb)) at all

pub stands-Cast :
    (items : List AExpr) (n : ℕ) (a : Node) (ea : Expr) (dtype : DataType) (how : CastOptions) →
    slice_get items n ≡ Some (ir.Cast a dtype how) → AllStandFor items (a.0 ∷ []) (ea ∷ []) → StandsFor items n (expr.Cast ea dtype how)
stands-Cast items n a ea dtype how at all =
    stands items n (ir.Cast a dtype how) (expr.Cast ea dtype how) (ea ∷ [])
    (ap tree_of (sym (expr.rolls-Cast ea dtype how)) ∙ fold-roll-Expr (Aggregate × List Tree) Tree agg_layer layer (Expr-F.Cast ea dtype how))
    (ap options_of (sym (expr.rolls-Cast ea dtype how)) ∙ fold-roll-Expr (List Options) Options agg_options layer_options (Expr-F.Cast ea dtype how)) at all

pub stands-Gather :
    (items : List AExpr) (n : ℕ) (a b : Node) (ea eb : Expr) (returns_scalar : Bool) →
    slice_get items n ≡ Some (ir.Gather a b returns_scalar) → AllStandFor items (a.0 ∷ b.0 ∷ []) (ea ∷ eb ∷ []) → StandsFor items n (expr.Gather ea eb returns_scalar)
stands-Gather items n a b ea eb returns_scalar at all =
    stands items n (ir.Gather a b returns_scalar) (expr.Gather ea eb returns_scalar) (ea ∷ eb ∷ [])
    (ap tree_of (sym (expr.rolls-Gather ea eb returns_scalar)) ∙ fold-roll-Expr (Aggregate × List Tree) Tree agg_layer layer (Expr-F.Gather ea eb returns_scalar))
    (ap options_of (sym (expr.rolls-Gather ea eb returns_scalar)) ∙ fold-roll-Expr (List Options) Options agg_options layer_options (Expr-F.Gather ea eb returns_scalar)) at all

pub stands-Slice :
    (items : List AExpr) (n : ℕ) (a b d : Node) (ea eb ed : Expr) →
    slice_get items n ≡ Some (ir.Slice a b d) → AllStandFor items (a.0 ∷ b.0 ∷ d.0 ∷ []) (ea ∷ eb ∷ ed ∷ []) → StandsFor items n (expr.Slice ea eb ed)
stands-Slice items n a b d ea eb ed at all =
    stands items n (ir.Slice a b d) (expr.Slice ea eb ed) (ea ∷ eb ∷ ed ∷ [])
    (ap tree_of (sym (expr.rolls-Slice ea eb ed)) ∙ fold-roll-Expr (Aggregate × List Tree) Tree agg_layer layer (Expr-F.Slice ea eb ed))
    (ap options_of (sym (expr.rolls-Slice ea eb ed)) ∙ fold-roll-Expr (List Options) Options agg_options layer_options (Expr-F.Slice ea eb ed)) at all

pub stands-Filter :
    (items : List AExpr) (n : ℕ) (a b : Node) (ea eb : Expr) →
    slice_get items n ≡ Some (ir.Filter a b) → AllStandFor items (a.0 ∷ b.0 ∷ []) (ea ∷ eb ∷ []) → StandsFor items n (expr.Filter ea eb)
stands-Filter items n a b ea eb at all =
    stands items n (ir.Filter a b) (expr.Filter ea eb) (ea ∷ eb ∷ [])
    (ap tree_of (sym (expr.rolls-Filter ea eb)) ∙ fold-roll-Expr (Aggregate × List Tree) Tree agg_layer layer (Expr-F.Filter ea eb))
    (ap options_of (sym (expr.rolls-Filter ea eb)) ∙ fold-roll-Expr (List Options) Options agg_options layer_options (Expr-F.Filter ea eb)) at all

pub stands-Ternary :
    (items : List AExpr) (n : ℕ) (a b d : Node) (ea eb ed : Expr) →
    slice_get items n ≡ Some (ir.Ternary a b d) → AllStandFor items (a.0 ∷ b.0 ∷ d.0 ∷ []) (ea ∷ eb ∷ ed ∷ []) → StandsFor items n (expr.Ternary ea eb ed)
stands-Ternary items n a b d ea eb ed at all =
    stands items n (ir.Ternary a b d) (expr.Ternary ea eb ed) (ea ∷ eb ∷ ed ∷ [])
    (ap tree_of (sym (expr.rolls-Ternary ea eb ed)) ∙ fold-roll-Expr (Aggregate × List Tree) Tree agg_layer layer (Expr-F.Ternary ea eb ed))
    (ap options_of (sym (expr.rolls-Ternary ea eb ed)) ∙ fold-roll-Expr (List Options) Options agg_options layer_options (Expr-F.Ternary ea eb ed)) at all

pub stands-Len :
    (items : List AExpr) (n : ℕ) →
    slice_get items n ≡ Some ir.Len → AllStandFor items [] [] → StandsFor items n expr.Len
stands-Len items n at all =
    stands items n ir.Len expr.Len []
    (ap tree_of (sym expr.rolls-Len) ∙ fold-roll-Expr (Aggregate × List Tree) Tree agg_layer layer Expr-F.Len)
    (ap options_of (sym expr.rolls-Len) ∙ fold-roll-Expr (List Options) Options agg_options layer_options Expr-F.Len) at all

pub stands-Min :
    (items : List AExpr) (n : ℕ) (a : Node) (e : Expr) →
    slice_get items n ≡ Some (ir.Agg (ir_agg.Min a)) → AllStandFor items (a.0 ∷ []) (e ∷ []) → StandsFor items n (expr.Agg (agg.Min e))
stands-Min items n a e at all =
    stands items n (ir.Agg (ir_agg.Min a)) (expr.Agg (agg.Min e)) (e ∷ [])
    (ap tree_of (sym (expr.rolls-Agg (agg.Min e))) ∙ (fold-roll-Expr (Aggregate × List Tree) Tree agg_layer layer (Expr-F.Agg (agg.Min e))
    ∙ ap (λ (p : Aggregate × List Tree). over (root.Agg p.0) p.1)
    (ap (fold-AggExpr (Aggregate × List Tree) Tree agg_layer layer) (sym (agg.rolls-Min e)) ∙ fold-roll-AggExpr (Aggregate × List Tree) Tree agg_layer layer (AggExpr-F.Min e))))
    (ap options_of (sym (expr.rolls-Agg (agg.Min e))) ∙ (fold-roll-Expr (List Options) Options agg_options layer_options (Expr-F.Agg (agg.Min e))
    ∙ ap (λ (os : List Options). options None (options_list os))
    (ap (fold-AggExpr (List Options) Options agg_options layer_options) (sym (agg.rolls-Min e)) ∙ fold-roll-AggExpr (List Options) Options agg_options layer_options (AggExpr-F.Min e)))) at all

pub stands-Max :
    (items : List AExpr) (n : ℕ) (a : Node) (e : Expr) →
    slice_get items n ≡ Some (ir.Agg (ir_agg.Max a)) → AllStandFor items (a.0 ∷ []) (e ∷ []) → StandsFor items n (expr.Agg (agg.Max e))
stands-Max items n a e at all =
    stands items n (ir.Agg (ir_agg.Max a)) (expr.Agg (agg.Max e)) (e ∷ [])
    (ap tree_of (sym (expr.rolls-Agg (agg.Max e))) ∙ (fold-roll-Expr (Aggregate × List Tree) Tree agg_layer layer (Expr-F.Agg (agg.Max e))
    ∙ ap (λ (p : Aggregate × List Tree). over (root.Agg p.0) p.1)
    (ap (fold-AggExpr (Aggregate × List Tree) Tree agg_layer layer) (sym (agg.rolls-Max e)) ∙ fold-roll-AggExpr (Aggregate × List Tree) Tree agg_layer layer (AggExpr-F.Max e))))
    (ap options_of (sym (expr.rolls-Agg (agg.Max e))) ∙ (fold-roll-Expr (List Options) Options agg_options layer_options (Expr-F.Agg (agg.Max e))
    ∙ ap (λ (os : List Options). options None (options_list os))
    (ap (fold-AggExpr (List Options) Options agg_options layer_options) (sym (agg.rolls-Max e)) ∙ fold-roll-AggExpr (List Options) Options agg_options layer_options (AggExpr-F.Max e)))) at all

pub stands-First :
    (items : List AExpr) (n : ℕ) (a : Node) (e : Expr) →
    slice_get items n ≡ Some (ir.Agg (ir_agg.First a)) → AllStandFor items (a.0 ∷ []) (e ∷ []) → StandsFor items n (expr.Agg (agg.First e))
stands-First items n a e at all =
    stands items n (ir.Agg (ir_agg.First a)) (expr.Agg (agg.First e)) (e ∷ [])
    (ap tree_of (sym (expr.rolls-Agg (agg.First e))) ∙ (fold-roll-Expr (Aggregate × List Tree) Tree agg_layer layer (Expr-F.Agg (agg.First e))
    ∙ ap (λ (p : Aggregate × List Tree). over (root.Agg p.0) p.1)
    (ap (fold-AggExpr (Aggregate × List Tree) Tree agg_layer layer) (sym (agg.rolls-First e)) ∙ fold-roll-AggExpr (Aggregate × List Tree) Tree agg_layer layer (AggExpr-F.First e))))
    (ap options_of (sym (expr.rolls-Agg (agg.First e))) ∙ (fold-roll-Expr (List Options) Options agg_options layer_options (Expr-F.Agg (agg.First e))
    ∙ ap (λ (os : List Options). options None (options_list os))
    (ap (fold-AggExpr (List Options) Options agg_options layer_options) (sym (agg.rolls-First e)) ∙ fold-roll-AggExpr (List Options) Options agg_options layer_options (AggExpr-F.First e)))) at all

pub stands-Last :
    (items : List AExpr) (n : ℕ) (a : Node) (e : Expr) →
    slice_get items n ≡ Some (ir.Agg (ir_agg.Last a)) → AllStandFor items (a.0 ∷ []) (e ∷ []) → StandsFor items n (expr.Agg (agg.Last e))
stands-Last items n a e at all =
    stands items n (ir.Agg (ir_agg.Last a)) (expr.Agg (agg.Last e)) (e ∷ [])
    (ap tree_of (sym (expr.rolls-Agg (agg.Last e))) ∙ (fold-roll-Expr (Aggregate × List Tree) Tree agg_layer layer (Expr-F.Agg (agg.Last e))
    ∙ ap (λ (p : Aggregate × List Tree). over (root.Agg p.0) p.1)
    (ap (fold-AggExpr (Aggregate × List Tree) Tree agg_layer layer) (sym (agg.rolls-Last e)) ∙ fold-roll-AggExpr (Aggregate × List Tree) Tree agg_layer layer (AggExpr-F.Last e))))
    (ap options_of (sym (expr.rolls-Agg (agg.Last e))) ∙ (fold-roll-Expr (List Options) Options agg_options layer_options (Expr-F.Agg (agg.Last e))
    ∙ ap (λ (os : List Options). options None (options_list os))
    (ap (fold-AggExpr (List Options) Options agg_options layer_options) (sym (agg.rolls-Last e)) ∙ fold-roll-AggExpr (List Options) Options agg_options layer_options (AggExpr-F.Last e)))) at all

pub stands-Sum :
    (items : List AExpr) (n : ℕ) (a : Node) (e : Expr) →
    slice_get items n ≡ Some (ir.Agg (ir_agg.Sum a)) → AllStandFor items (a.0 ∷ []) (e ∷ []) → StandsFor items n (expr.Agg (agg.Sum e))
stands-Sum items n a e at all =
    stands items n (ir.Agg (ir_agg.Sum a)) (expr.Agg (agg.Sum e)) (e ∷ [])
    (ap tree_of (sym (expr.rolls-Agg (agg.Sum e))) ∙ (fold-roll-Expr (Aggregate × List Tree) Tree agg_layer layer (Expr-F.Agg (agg.Sum e))
    ∙ ap (λ (p : Aggregate × List Tree). over (root.Agg p.0) p.1)
    (ap (fold-AggExpr (Aggregate × List Tree) Tree agg_layer layer) (sym (agg.rolls-Sum e)) ∙ fold-roll-AggExpr (Aggregate × List Tree) Tree agg_layer layer (AggExpr-F.Sum e))))
    (ap options_of (sym (expr.rolls-Agg (agg.Sum e))) ∙ (fold-roll-Expr (List Options) Options agg_options layer_options (Expr-F.Agg (agg.Sum e))
    ∙ ap (λ (os : List Options). options None (options_list os))
    (ap (fold-AggExpr (List Options) Options agg_options layer_options) (sym (agg.rolls-Sum e)) ∙ fold-roll-AggExpr (List Options) Options agg_options layer_options (AggExpr-F.Sum e)))) at all

pub stands-Count :
    (items : List AExpr) (n : ℕ) (a : Node) (e : Expr) (nulls : Bool) →
    slice_get items n ≡ Some (ir.Agg (ir_agg.Count a nulls)) → AllStandFor items (a.0 ∷ []) (e ∷ []) → StandsFor items n (expr.Agg (agg.Count e nulls))
stands-Count items n a e nulls at all =
    stands items n (ir.Agg (ir_agg.Count a nulls)) (expr.Agg (agg.Count e nulls)) (e ∷ [])
    (ap tree_of (sym (expr.rolls-Agg (agg.Count e nulls))) ∙ (fold-roll-Expr (Aggregate × List Tree) Tree agg_layer layer (Expr-F.Agg (agg.Count e nulls))
    ∙ ap (λ (p : Aggregate × List Tree). over (root.Agg p.0) p.1)
    (ap (fold-AggExpr (Aggregate × List Tree) Tree agg_layer layer) (sym (agg.rolls-Count e nulls)) ∙ fold-roll-AggExpr (Aggregate × List Tree) Tree agg_layer layer (AggExpr-F.Count e nulls))))
    (ap options_of (sym (expr.rolls-Agg (agg.Count e nulls))) ∙ (fold-roll-Expr (List Options) Options agg_options layer_options (Expr-F.Agg (agg.Count e nulls))
    ∙ ap (λ (os : List Options). options None (options_list os))
    (ap (fold-AggExpr (List Options) Options agg_options layer_options) (sym (agg.rolls-Count e nulls)) ∙ fold-roll-AggExpr (List Options) Options agg_options layer_options (AggExpr-F.Count e nulls)))) at all

pub stands-Function :
    (items : List AExpr) (n : ℕ) (input : Entries ExprIR) (es : Entries Expr) (function : FunctionExpr) (own : FunctionOptions) →
    slice_get items n ≡ Some (ir.Function input function own) → AllStandFor items (expr_places input.entries) es.entries → StandsFor items n (expr.Function es function own)
stands-Function items n input es function own at all =
    stands items n (ir.Function input function own) (expr.Function es function own) es.entries
    (ap tree_of (sym (expr.rolls-Function es function own)) ∙ fold-roll-Expr (Aggregate × List Tree) Tree agg_layer layer (Expr-F.Function es function own))
    (ap options_of (sym (expr.rolls-Function es function own)) ∙ fold-roll-Expr (List Options) Options agg_options layer_options (Expr-F.Function es function own)) at all

pub stands-AnonymousFunction :
    (items : List AExpr) (n : ℕ) (input : Entries ExprIR) (es : Entries Expr) (kernel : ℕ) (own : FunctionOptions) →
    slice_get items n ≡ Some (ir.AnonymousFunction input kernel own) → AllStandFor items (expr_places input.entries) es.entries → StandsFor items n (expr.AnonymousFunction es kernel own)
stands-AnonymousFunction items n input es kernel own at all =
    stands items n (ir.AnonymousFunction input kernel own) (expr.AnonymousFunction es kernel own) es.entries
    (ap tree_of (sym (expr.rolls-AnonymousFunction es kernel own)) ∙ fold-roll-Expr (Aggregate × List Tree) Tree agg_layer layer (Expr-F.AnonymousFunction es kernel own))
    (ap options_of (sym (expr.rolls-AnonymousFunction es kernel own)) ∙ fold-roll-Expr (List Options) Options agg_options layer_options (Expr-F.AnonymousFunction es kernel own)) at all
