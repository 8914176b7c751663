-- The type that a function answers.
use Rattle.std.specs.Prelude.{ℕ, Bool, true, false, ◌||◌, ◌&&◌, List, [], ◌∷◌, codes, Option, Some, None, option_map, slice_get, if◌then◌else◌}
use Rattle.px_types.specs.declared.dtype.DataType.{DataType, DataType-F, out-DataType}
use Rattle.px_types.specs.declared.dtype.DataType.TheVariants as dtype
use Rattle.px_types.specs.declared.dtype.Field.{Field}
use Rattle.px_types.specs.Classes.{is_integer, is_float}
use Rattle.px_types.specs.Supertypes.{list_of}
use Rattle.px_fields.specs.declared.rule.Rule.{Rule}
use Rattle.px_fields.specs.declared.rule.Rule.TheVariants as rules
use Rattle.px_functions.specs.declared.small.RankMethod.{RankMethod}
use Rattle.px_functions.specs.declared.small.RankMethod.TheVariants as rank
use Rattle.px_functions.specs.declared.small.InterpolationMethod.{InterpolationMethod}
use Rattle.px_functions.specs.declared.small.InterpolationMethod.TheVariants as interpolation
use Rattle.px_functions.specs.declared.function.BooleanFunction.{BooleanFunction}
use Rattle.px_functions.specs.declared.function.BooleanFunction.TheVariants as boolean
use Rattle.px_types.specs.declared.function.BitwiseFunction.{BitwiseFunction}
use Rattle.px_types.specs.declared.function.BitwiseFunction.TheVariants as bitwise
use Rattle.px_functions.specs.declared.function.FunctionExpr.{FunctionExpr}
use Rattle.px_functions.specs.declared.function.FunctionExpr.TheVariants.{Boolean, Bitwise, Negate, Abs, Sign, NullCount, DropNulls, Reverse, FillNull, Coalesce, Clip, Fused, MaxHorizontal, MinHorizontal, SumHorizontal, MeanHorizontal, Append, ArgMin, ArgMax, Product, Hash, ArgWhere, IndexOf, SearchSorted, Pow, ShiftAndFill, Shift, DropNans, Mode, Skew, Kurtosis, Reshape, RepeatBy, ArgUnique, Rank, Repeat, AsStruct, TopK, TopKBy, CumCount, CumSum, CumProd, CumMin, CumMax, ValueCounts, UniqueCounts, ApproxNUnique, ShrinkType, Diff, PctChange, Interpolate, InterpolateBy, Unique, Round, RoundSF, Floor, Ceil, UpperBound, LowerBound, ConcatExpr, PeakMin, PeakMax, RLE, RLEID, ToPhysical, SetSortedFlag, BackwardFill, ForwardFill, Replace, ReplaceStrict, GatherEvery, Reinterpret, ExtendConstant, FillNullWithStrategy}
use Rattle.px_fields.specs.TypeChanges.{or_type, float_of, numeric_as_float, wider_product, product_of, other_difference, smallest, physical}
use Rattle.px_fields.specs.FieldTypes.{first, sum_of, supertype, replaced}
use Rattle.px_fields.specs.Reshape.{reshaped}

-- The rule for a function's type.

abbrev pub boolean_rule : BooleanFunction → Rule
boolean_rule boolean.Not = rules.BooleanOrInteger
boolean_rule _ = rules.Boolean

abbrev pub bitwise_rule : BitwiseFunction → Rule
bitwise_rule bitwise.And = rules.BitReduction
bitwise_rule bitwise.Or = rules.BitReduction
bitwise_rule bitwise.Xor = rules.BitReduction
bitwise_rule _ = rules.Bits

abbrev pub rank_rule : RankMethod → Rule
rank_rule rank.Average = rules.Float64
rank_rule _ = rules.UInt32

abbrev pub interpolation_rule : InterpolationMethod → Rule
interpolation_rule interpolation.Linear = rules.NumericAsFloat
interpolation_rule interpolation.Nearest = rules.First

unfoldable pub rule : FunctionExpr → Rule
rule (Boolean function) = boolean_rule function
rule (Bitwise function) = bitwise_rule function
rule Negate = rules.First
rule Abs = rules.First
rule Sign = rules.Int64
rule NullCount = rules.UInt32
rule DropNulls = rules.First
rule Reverse = rules.First
rule FillNull = rules.Supertype
rule Coalesce = rules.Supertype
rule (Clip _ _) = rules.First
rule (Fused _) = rules.Supertype
rule MaxHorizontal = rules.Supertype
rule MinHorizontal = rules.Supertype
rule (SumHorizontal _) = rules.SummedSupertype
rule (MeanHorizontal _) = rules.FloatSupertype
rule (Append upcast) = (if upcast then rules.Supertype else rules.First)
rule ArgMin = rules.UInt32
rule ArgMax = rules.UInt32
rule Product = rules.Product
rule (Hash _ _ _ _) = rules.UInt64
rule ArgWhere = rules.UInt32
rule IndexOf = rules.UInt32
rule (SearchSorted _) = rules.UInt32
rule (Pow _) = rules.Power
rule ShiftAndFill = rules.First
rule Shift = rules.First
rule DropNans = rules.First
rule Mode = rules.First
rule (Skew _) = rules.Float64
rule (Kurtosis _ _) = rules.Float64
rule (Reshape _) = rules.Own
rule RepeatBy = rules.ListOfFirst
rule ArgUnique = rules.UInt32
rule (Rank options _) = rank_rule options.method
rule Repeat = rules.First
rule AsStruct = rules.AllFields
rule (TopK _) = rules.First
rule (TopKBy _) = rules.First
rule (CumCount _) = rules.UInt32
rule (CumSum _) = rules.RunningSum
rule (CumProd _) = rules.RunningProduct
rule (CumMin _) = rules.First
rule (CumMax _) = rules.First
rule (ValueCounts _ _ _ _) = rules.Own
rule UniqueCounts = rules.UInt32
rule ApproxNUnique = rules.UInt32
rule ShrinkType = rules.Smallest
rule (Diff _ _) = rules.Difference
rule PctChange = rules.Fraction
rule (Interpolate method) = interpolation_rule method
rule InterpolateBy = rules.NumericAsFloat
rule (Unique _) = rules.First
rule (Round _) = rules.First
rule (RoundSF _) = rules.First
rule Floor = rules.First
rule Ceil = rules.First
rule UpperBound = rules.First
rule LowerBound = rules.First
rule (ConcatExpr _) = rules.Supertype
rule PeakMin = rules.First
rule PeakMax = rules.First
rule RLE = rules.RunLengths
rule RLEID = rules.UInt32
rule ToPhysical = rules.Physical
rule (SetSortedFlag _) = rules.First
rule (BackwardFill _) = rules.First
rule (ForwardFill _) = rules.First
rule Replace = rules.First
rule (ReplaceStrict _) = rules.Own
rule (GatherEvery _ _) = rules.First
rule (Reinterpret signed) = (if signed then rules.Int64 else rules.UInt64)
rule ExtendConstant = rules.First
rule (FillNullWithStrategy _) = rules.First

-- The type by a rule.

-- a type, where the test holds
abbrev pub when : Bool → DataType → Option DataType
when test d = if test then Some d else None

abbrev pub layer_is_boolean : DataType-F DataType Field → Bool
layer_is_boolean DataType-F.Boolean = true
layer_is_boolean _ = false

abbrev pub is_boolean : DataType → Bool
is_boolean d = layer_is_boolean (out-DataType d)

-- a type whose values have bits
abbrev pub has_bits : DataType → Bool
has_bits d = is_boolean d || is_integer d || is_float d

-- `UInt32` for `Boolean`
abbrev pub counted_booleans : DataType → DataType
counted_booleans d = if is_boolean d then dtype.UInt32 else d

-- the second type, where it is a float type beside an integer type
abbrev pub power_of : DataType → DataType → DataType
power_of base exponent = if is_integer base && is_float exponent then exponent else base

-- the type of a relative change
abbrev pub fraction_of : DataType → DataType
fraction_of d = if is_float d then d else dtype.Float64

-- the struct of these fields
abbrev pub struct_of : List Field → DataType
struct_of fields = dtype.Struct (record { entries = fields })

-- the lengths of runs, and their values
abbrev pub run_lengths : DataType → DataType
run_lengths d = struct_of (record { name = codes "len"; dtype = dtype.UInt32 } ∷ record { name = codes "value"; dtype = d } ∷ [])

-- the type by a rule, of the first field's type and of all fields
unfoldable pub rule_type : Rule → DataType → List Field → Option DataType
rule_type rules.First d fields = Some d
rule_type rules.Boolean d fields = Some dtype.Boolean
rule_type rules.UInt32 d fields = Some dtype.UInt32
rule_type rules.UInt64 d fields = Some dtype.UInt64
rule_type rules.Int64 d fields = Some dtype.Int64
rule_type rules.Float64 d fields = Some dtype.Float64
rule_type rules.Supertype d fields = supertype fields
rule_type rules.SummedSupertype d fields = option_map counted_booleans (supertype fields)
rule_type rules.FloatSupertype d fields = option_map float_of (supertype fields)
rule_type rules.BooleanOrInteger d fields = when (is_boolean d || is_integer d) d
rule_type rules.Bits d fields = when (has_bits d) dtype.UInt32
rule_type rules.BitReduction d fields = when (has_bits d) d
rule_type rules.Power d fields = option_map (λ f. power_of d f.dtype) (slice_get fields 1)
rule_type rules.Product d fields = Some (product_of d)
rule_type rules.Smallest d fields = Some (or_type d (smallest d))
rule_type rules.Difference d fields = Some (or_type d (other_difference d))
rule_type rules.Fraction d fields = Some (fraction_of d)
rule_type rules.NumericAsFloat d fields = Some (numeric_as_float d)
rule_type rules.RunningSum d fields = Some (sum_of d)
rule_type rules.RunningProduct d fields = Some (or_type d (wider_product d))
rule_type rules.ListOfFirst d fields = Some (list_of d)
rule_type rules.RunLengths d fields = Some (run_lengths d)
rule_type rules.AllFields d fields = Some (struct_of fields)
rule_type rules.Physical d fields = Some (physical d)
rule_type rules.Own d fields = None

-- The type of a function.

-- a field, and how often its values come, by a count or a share
abbrev pub value_counts : Field → List ℕ → Bool → DataType
value_counts f name normalize =
    struct_of (f ∷ record { name = name; dtype = if normalize then dtype.Float64 else dtype.UInt32 } ∷ [])

-- the type of a function over at least one field
abbrev pub type_of : FunctionExpr → List Field → Option DataType
type_of (ValueCounts _ _ name normalize) fields = Some (value_counts (first fields) name normalize)
type_of (ReplaceStrict return_dtype) fields = replaced return_dtype fields
type_of (Reshape dimensions) fields = reshaped dimensions.entries (first fields).dtype
type_of function fields = rule_type (rule function) (first fields).dtype fields

-- the type, where there is a field
abbrev pub of_fields : List Field → Option DataType → Option DataType
of_fields [] found = None
of_fields (_ ∷ _) found = found

-- the type of a function over fields, where it has one
abbrev pub function_type : FunctionExpr → List Field → Option DataType
function_type function fields = of_fields fields (type_of function fields)

-- the type by a rule over fields, where there is one
abbrev pub answer_of : Rule → List Field → Option DataType
answer_of r fields = of_fields fields (rule_type r (first fields).dtype fields)

-- the type of a function that answers Booleans, over fields
abbrev pub boolean_type : BooleanFunction → List Field → Option DataType
boolean_type function fields = answer_of (boolean_rule function) fields

-- the type of a function over bits, over fields
abbrev pub bitwise_type : BitwiseFunction → List Field → Option DataType
bitwise_type function fields = answer_of (bitwise_rule function) fields
