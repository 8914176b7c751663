-- The texts of functions.
use Rattle.std.specs.Prelude.{ℕ, Bool, true, false, List, ◌++◌, codes, if◌then◌else◌}
use Rattle.px_functions.specs.declared.function.BooleanFunction.{BooleanFunction}
use Rattle.px_functions.specs.declared.function.BooleanFunction.TheVariants as boolean
use Rattle.px_types.specs.FunctionTexts.{bitwise_text, fused_text}
use Rattle.px_functions.specs.declared.function.FunctionExpr.{FunctionExpr}
use Rattle.px_functions.specs.declared.function.FunctionExpr.TheVariants.{Boolean, Bitwise, Negate, Abs, Sign, NullCount, DropNulls, Reverse, FillNull, Coalesce, Clip, Fused, MaxHorizontal, MinHorizontal, SumHorizontal, MeanHorizontal, Append, ArgMin, ArgMax, Product, Hash, ArgWhere, IndexOf, SearchSorted, Pow, ShiftAndFill, Shift, DropNans, Mode, Skew, Kurtosis, Reshape, RepeatBy, ArgUnique, Rank, Repeat, AsStruct, TopK, TopKBy, CumCount, CumSum, CumProd, CumMin, CumMax, ValueCounts, UniqueCounts, ApproxNUnique, ShrinkType, Diff, PctChange, Interpolate, InterpolateBy, Unique, Round, RoundSF, Floor, Ceil, UpperBound, LowerBound, ConcatExpr, PeakMin, PeakMax, RLE, RLEID, ToPhysical, SetSortedFlag, BackwardFill, ForwardFill, Replace, ReplaceStrict, GatherEvery, Reinterpret, ExtendConstant, FillNullWithStrategy}

unfoldable pub boolean_text : BooleanFunction → List ℕ
boolean_text (boolean.Any _) = codes "any"
boolean_text (boolean.All _) = codes "all"
boolean_text boolean.IsNull = codes "is_null"
boolean_text boolean.IsNotNull = codes "is_not_null"
boolean_text boolean.IsFinite = codes "is_finite"
boolean_text boolean.IsInfinite = codes "is_infinite"
boolean_text boolean.IsNan = codes "is_nan"
boolean_text boolean.IsNotNan = codes "is_not_nan"
boolean_text boolean.IsFirstDistinct = codes "is_first_distinct"
boolean_text boolean.IsLastDistinct = codes "is_last_distinct"
boolean_text boolean.IsUnique = codes "is_unique"
boolean_text boolean.IsDuplicated = codes "is_duplicated"
boolean_text (boolean.IsBetween _) = codes "is_between"
boolean_text boolean.IsIn = codes "is_in"
boolean_text boolean.AllHorizontal = codes "all_horizontal"
boolean_text boolean.AnyHorizontal = codes "any_horizontal"
boolean_text boolean.Not = codes "not"

-- by the bounds that there are
abbrev pub clip_text : Bool → Bool → List ℕ
clip_text true false = codes "clip_min"
clip_text false true = codes "clip_max"
clip_text _ _ = codes "clip"

-- the text of a function, and of a function over bits what follows `bitwise_`
unfoldable pub own_text : FunctionExpr → List ℕ
own_text (Boolean function) = boolean_text function
own_text (Bitwise function) = bitwise_text function
own_text Negate = codes "negate"
own_text Abs = codes "abs"
own_text Sign = codes "sign"
own_text NullCount = codes "null_count"
own_text DropNulls = codes "drop_nulls"
own_text Reverse = codes "reverse"
own_text FillNull = codes "fill_null"
own_text Coalesce = codes "coalesce"
own_text (Clip has_min has_max) = clip_text has_min has_max
own_text (Fused operator) = fused_text operator
own_text MaxHorizontal = codes "max_horizontal"
own_text MinHorizontal = codes "min_horizontal"
own_text (SumHorizontal _) = codes "sum_horizontal"
own_text (MeanHorizontal _) = codes "mean_horizontal"
own_text (Append _) = codes "append"
own_text ArgMin = codes "arg_min"
own_text ArgMax = codes "arg_max"
own_text Product = codes "product"
own_text (Hash _ _ _ _) = codes "hash"
own_text ArgWhere = codes "arg_where"
own_text IndexOf = codes "index_of"
own_text (SearchSorted _) = codes "search_sorted"
own_text (Pow _) = codes "pow"
own_text ShiftAndFill = codes "shift_and_fill"
own_text Shift = codes "shift"
own_text DropNans = codes "drop_nans"
own_text Mode = codes "mode"
own_text (Skew _) = codes "skew"
own_text (Kurtosis _ _) = codes "kurtosis"
own_text (Reshape _) = codes "reshape"
own_text RepeatBy = codes "repeat_by"
own_text ArgUnique = codes "arg_unique"
own_text (Rank _ _) = codes "rank"
own_text Repeat = codes "repeat"
own_text AsStruct = codes "as_struct"
own_text (TopK descending) = (if descending then codes "bottom_k" else codes "top_k")
own_text (TopKBy _) = codes "top_k_by"
own_text (CumCount _) = codes "cum_count"
own_text (CumSum _) = codes "cum_sum"
own_text (CumProd _) = codes "cum_prod"
own_text (CumMin _) = codes "cum_min"
own_text (CumMax _) = codes "cum_max"
own_text (ValueCounts _ _ _ _) = codes "value_counts"
own_text UniqueCounts = codes "unique_counts"
own_text ApproxNUnique = codes "approx_n_unique"
own_text ShrinkType = codes "shrink_dtype"
own_text (Diff _ _) = codes "diff"
own_text PctChange = codes "pct_change"
own_text (Interpolate _) = codes "interpolate"
own_text InterpolateBy = codes "interpolate_by"
own_text (Unique stable) = (if stable then codes "unique_stable" else codes "unique")
own_text (Round _) = codes "round"
own_text (RoundSF _) = codes "round_sig_figs"
own_text Floor = codes "floor"
own_text Ceil = codes "ceil"
own_text UpperBound = codes "upper_bound"
own_text LowerBound = codes "lower_bound"
own_text (ConcatExpr _) = codes "concat_expr"
own_text PeakMin = codes "peak_min"
own_text PeakMax = codes "peak_max"
own_text RLE = codes "rle"
own_text RLEID = codes "rle_id"
own_text ToPhysical = codes "to_physical"
own_text (SetSortedFlag _) = codes "set_sorted"
own_text (BackwardFill _) = codes "backward_fill"
own_text (ForwardFill _) = codes "forward_fill"
own_text Replace = codes "replace"
own_text (ReplaceStrict _) = codes "replace_strict"
own_text (GatherEvery _ _) = codes "gather_every"
own_text (Reinterpret _) = codes "reinterpret"
own_text ExtendConstant = codes "extend_constant"
own_text (FillNullWithStrategy _) = codes "fill_null_with_strategy"

-- what stands before it
abbrev pub prefix : FunctionExpr → List ℕ
prefix (Bitwise _) = codes "bitwise_"
prefix _ = codes ""

-- the text of a function
abbrev pub function_text : FunctionExpr → List ℕ
function_text f = prefix f ++ own_text f
