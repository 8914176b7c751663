-- Common types of all types.
use Rattle.std.specs.Prelude.{ℕ, zero, suc, Bool, true, false, if◌then◌else◌, Option, Some, None, option_map, Result, Ok, Err}
use Rattle.std.specs.Option.{option_or}
use Rattle.px_base.specs.Exact.{same}
use Rattle.px_base.specs.declared.error.PlanError.{PlanError}
use Rattle.px_base.specs.declared.error.PlanError.TheVariants.{InvalidOperation}
use Rattle.px_types.specs.contracts.dtype.DataType.{the_row}
use Rattle.px_types.specs.declared.dtype.DataType.{DataType, DataType-F, out-DataType}
use Rattle.px_types.specs.declared.dtype.DataType.TheVariants as dtype
use Rattle.px_types.specs.declared.dtype.DataType.TheFolds.{fold-DataType}
use Rattle.px_types.specs.declared.dtype.Field.{Field}
use Rattle.px_types.specs.declared.type_parts.UnknownKind.TheVariants as unknown
use Rattle.px_types.specs.declared.class.Class.{Class}
use Rattle.px_types.specs.declared.class.Class.TheVariants as class
use Rattle.px_types.specs.declared.value_type.ValueType.{ValueType}
use Rattle.px_types.specs.declared.value_type.ValueType.TheVariants as value
use Rattle.px_types.specs.Classes.{class_of, is_boolean_or_integer, is_narrow}
use Rattle.px_types.specs.ValueTypes.{dtype_of, common_dtype, holds, default_type}

-- a type, where the test holds
abbrev pub when : Bool → DataType → Option DataType
when test d = if test then Some d else None

-- the common type of value types that may be missing
abbrev pub common_of : Option ValueType → Option ValueType → Option DataType
common_of (Some a) (Some b) = common_dtype a b
common_of _ _ = None

-- an integer literal beside a value type: that type if it holds the integer, else its common type with the default type
abbrev pub integer_beside : Bool → Bool → ValueType → Option ValueType → Option DataType
integer_beside true _ v default = Some (dtype_of v)
integer_beside false number v default = if number then common_of (Some v) default else None

-- the lines of the table that read two types in this order, but those of two value types, of `Null` and of lists
unfoldable pub line : Class → Class → Option DataType
line class.Anything _ = Some (dtype.Unknown unknown.Any)
line class.Int128 (class.Value v) = when (is_boolean_or_integer v) dtype.Int128
line class.Float32 (class.Value v) = if is_narrow v then Some dtype.Float32 else when (is_boolean_or_integer v) dtype.Float64
line class.Float32 class.Int128 = Some dtype.Float64
line class.Float32 class.Float64 = Some dtype.Float64
line class.Float64 (class.Value v) = when (is_boolean_or_integer v) dtype.Float64
line class.Float64 class.Int128 = Some dtype.Float64
line (class.Integer z) (class.Value v) = integer_beside (holds v z) (is_boolean_or_integer v) v (default_type z)
line (class.Integer z) class.Int128 = Some dtype.Int128
line (class.Integer z) class.Float32 = Some dtype.Float32
line (class.Integer z) class.Float64 = Some dtype.Float64
line (class.Integer z) (class.Integer w) = common_of (default_type z) (default_type w)
line class.Float (class.Value v) = when (is_boolean_or_integer v) dtype.Float64
line class.Float class.Int128 = Some dtype.Float64
line class.Float class.Float32 = Some dtype.Float32
line class.Float class.Float64 = Some dtype.Float64
line class.Float (class.Integer z) = Some dtype.Float64
line class.Str (class.Value value.String) = Some dtype.String
line _ _ = None

-- the common type of two types that are not equal, nor both lists
abbrev pub common_unequal : DataType → DataType → Class → Class → Option DataType
common_unequal a b (class.Value value.Null) _ = Some b
common_unequal a b _ (class.Value value.Null) = Some a
common_unequal a b (class.Value v) (class.Value w) = common_dtype v w
common_unequal a b v w = option_or (line v w) (line w v)

-- the common type of two types that are not both lists
unfoldable pub common_flat : DataType → DataType → Option DataType
common_flat a b = if same the_row.coded a b then Some a else common_unequal a b (class_of a) (class_of b)

abbrev pub layer_element : DataType-F DataType Field → Option DataType
layer_element (DataType-F.List inner) = Some inner
layer_element _ = None

-- the type of a list's elements
abbrev pub element_of : DataType → Option DataType
element_of d = layer_element (out-DataType d)

-- the type of the lists of such elements
abbrev pub list_of : DataType → DataType
list_of inner = dtype.List inner

-- the list of the common type of the elements, where both types are lists
abbrev pub common_lists : (DataType → DataType → Option DataType) → Option DataType → Option DataType → Option DataType → Option DataType
common_lists inner (Some x) (Some y) other = option_map list_of (inner x y)
common_lists inner _ _ other = other

-- the common type of two types, by lists that are nested n deep
abbrev pub common_within : ℕ → DataType → DataType → Option DataType
common_within zero a b = common_flat a b
common_within (suc n) a b = common_lists (common_within n) (element_of a) (element_of b) (common_flat a b)

abbrev pub layer_depth : DataType-F ℕ Unit → ℕ
layer_depth (DataType-F.List inner) = suc inner
layer_depth _ = zero

-- how deep lists are nested in a type
abbrev pub list_depth : DataType → ℕ
list_depth = fold-DataType ℕ Unit layer_depth (λ f. tt)

-- the common type of two types, where they have one
unfoldable pub common_type : DataType → DataType → Option DataType
common_type a b = common_within (list_depth a) a b

-- a type, or the refusal where there is none
abbrev pub type_or_refusal : Option DataType → Result DataType PlanError
type_or_refusal (Some d) = Ok d
type_or_refusal None = Err InvalidOperation
