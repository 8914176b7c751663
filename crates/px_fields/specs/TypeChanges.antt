-- Types that are made from one type.
use Rattle.std.specs.Prelude.{ℕ, zero, suc, ◌*◌, List, Option, Some, None, option_map, if◌then◌else◌}
use Rattle.px_types.specs.declared.dtype.DataType.{DataType, DataType-F, out-DataType}
use Rattle.px_types.specs.declared.dtype.DataType.TheOpen.{Field-F}
use Rattle.px_types.specs.declared.dtype.DataType.TheFolds.{fold-DataType, fold-Field}
use Rattle.px_types.specs.declared.dtype.DataType.TheViews.{roll-DataType}
use Rattle.px_types.specs.declared.dtype.DataType.TheVariants as dtype
use Rattle.px_types.specs.declared.dtype.Field.{Field}
use Rattle.px_types.specs.declared.type_parts.TimeUnit.TheVariants.{Nanoseconds, Milliseconds}
use Rattle.px_types.specs.declared.type_parts.UnknownKind.{UnknownKind}
use Rattle.px_types.specs.declared.type_parts.UnknownKind.TheVariants as unknown
use Rattle.px_types.specs.Classes.{is_primitive_numeric}
use Rattle.px_types.specs.ValueTypes.{dtype_of, default_type}

-- the type that is found, else the type itself
abbrev pub or_type : DataType → Option DataType → DataType
or_type d (Some found) = found
or_type d None = d

-- Parts of a type.

abbrev pub layer_inner : DataType-F DataType Field → Option DataType
layer_inner (DataType-F.List inner) = Some inner
layer_inner (DataType-F.Array inner _) = Some inner
layer_inner _ = None

-- the type of the elements of a list or an array
abbrev pub inner_of : DataType → Option DataType
inner_of d = layer_inner (out-DataType d)

abbrev pub layer_array_inner : DataType-F DataType Field → Option DataType
layer_array_inner (DataType-F.Array inner _) = Some inner
layer_array_inner _ = None

-- the type of the elements of an array
abbrev pub array_inner_of : DataType → Option DataType
array_inner_of d = layer_array_inner (out-DataType d)

-- Numbers.

abbrev pub layer_float : DataType-F DataType Field → DataType
layer_float DataType-F.Float32 = dtype.Float32
layer_float _ = dtype.Float64

-- the float type beside a type
abbrev pub float_of : DataType → DataType
float_of d = layer_float (out-DataType d)

-- the float type beside a type of numbers
abbrev pub numeric_as_float : DataType → DataType
numeric_as_float d = if is_primitive_numeric d then float_of d else d

abbrev pub layer_sum : DataType-F DataType Field → Option DataType
layer_sum DataType-F.Boolean = Some dtype.UInt32
layer_sum DataType-F.UInt8 = Some dtype.Int64
layer_sum DataType-F.UInt16 = Some dtype.Int64
layer_sum DataType-F.Int8 = Some dtype.Int64
layer_sum DataType-F.Int16 = Some dtype.Int64
layer_sum _ = None

-- the type of a sum, where it is another one
abbrev pub wider_sum : DataType → Option DataType
wider_sum d = layer_sum (out-DataType d)

abbrev pub layer_running_product : DataType-F DataType Field → Option DataType
layer_running_product DataType-F.Boolean = Some dtype.Int64
layer_running_product DataType-F.UInt8 = Some dtype.Int64
layer_running_product DataType-F.UInt16 = Some dtype.Int64
layer_running_product DataType-F.UInt32 = Some dtype.Int64
layer_running_product DataType-F.Int8 = Some dtype.Int64
layer_running_product DataType-F.Int16 = Some dtype.Int64
layer_running_product DataType-F.Int32 = Some dtype.Int64
layer_running_product DataType-F.Int64 = Some dtype.Int64
layer_running_product _ = None

-- the type of a running product, where it is another one
abbrev pub wider_product : DataType → Option DataType
wider_product d = layer_running_product (out-DataType d)

abbrev pub layer_product : DataType-F DataType Field → DataType
layer_product DataType-F.Float32 = dtype.Float32
layer_product DataType-F.Float64 = dtype.Float64
layer_product DataType-F.UInt64 = dtype.UInt64
layer_product DataType-F.Int128 = dtype.Int128
layer_product _ = dtype.Int64

-- the type of a product of all rows
abbrev pub product_of : DataType → DataType
product_of d = layer_product (out-DataType d)

abbrev pub layer_difference : DataType-F DataType Field → Option DataType
layer_difference (DataType-F.Datetime unit _) = Some (dtype.Duration unit)
layer_difference DataType-F.Date = Some (dtype.Duration Milliseconds)
layer_difference DataType-F.Time = Some (dtype.Duration Nanoseconds)
layer_difference DataType-F.UInt64 = Some dtype.Int64
layer_difference DataType-F.UInt32 = Some dtype.Int64
layer_difference DataType-F.UInt16 = Some dtype.Int32
layer_difference DataType-F.UInt8 = Some dtype.Int16
layer_difference _ = None

-- the type of a difference of two rows, where it is another one
abbrev pub other_difference : DataType → Option DataType
other_difference d = layer_difference (out-DataType d)

abbrev pub layer_smallest : DataType-F DataType Field → Option DataType
layer_smallest DataType-F.Float32 = Some dtype.Float32
layer_smallest DataType-F.Float64 = Some dtype.Float32
layer_smallest DataType-F.UInt8 = Some dtype.Int8
layer_smallest DataType-F.UInt16 = Some dtype.Int8
layer_smallest DataType-F.UInt32 = Some dtype.Int8
layer_smallest DataType-F.UInt64 = Some dtype.Int8
layer_smallest DataType-F.Int8 = Some dtype.UInt8
layer_smallest DataType-F.Int16 = Some dtype.UInt8
layer_smallest DataType-F.Int32 = Some dtype.UInt8
layer_smallest DataType-F.Int64 = Some dtype.UInt8
layer_smallest DataType-F.Int128 = Some dtype.UInt8
layer_smallest _ = None

-- the smallest type beside a type of numbers; as in Polars, unsigned and signed are swapped
abbrev pub smallest : DataType → Option DataType
smallest d = layer_smallest (out-DataType d)

-- Types without a value of their own.

-- the type that a literal of an unknown type gets
abbrev pub known_type : UnknownKind → Option DataType
known_type unknown.Any = Some (dtype.Unknown unknown.Any)
known_type (unknown.Int z) = option_map dtype_of (default_type z)
known_type unknown.Float = Some dtype.Float64
known_type unknown.Str = Some dtype.String

abbrev pub layer_concrete : DataType → DataType-F DataType Field → Option DataType
layer_concrete d (DataType-F.Unknown u) = known_type u
layer_concrete d _ = Some d

-- a type, or what an unknown one becomes
abbrev pub concrete : DataType → Option DataType
concrete d = layer_concrete d (out-DataType d)

abbrev pub layer_zoned : Option (List ℕ) → DataType-F DataType Field → Option DataType
layer_zoned tz (DataType-F.Datetime unit _) = Some (dtype.Datetime unit tz)
layer_zoned _ _ = None

-- a point in time in another time zone
abbrev pub zoned : Option (List ℕ) → DataType → Option DataType
zoned tz d = layer_zoned tz (out-DataType d)

-- Types all the way down.

abbrev pub layer_physical : DataType-F DataType Field → DataType
layer_physical DataType-F.Date = dtype.Int32
layer_physical DataType-F.Time = dtype.Int64
layer_physical (DataType-F.Datetime _ _) = dtype.Int64
layer_physical (DataType-F.Duration _) = dtype.Int64
layer_physical DataType-F.Categorical = dtype.UInt32
layer_physical layer = roll-DataType layer

abbrev pub layer_physical_field : Field-F DataType Field → Field
layer_physical_field f = record { name = f.name; dtype = f.dtype }

-- the type that values of a type are kept as
abbrev pub physical : DataType → DataType
physical = fold-DataType DataType Field layer_physical layer_physical_field

abbrev pub physical_field : Field → Field
physical_field = fold-Field DataType Field layer_physical layer_physical_field

abbrev pub layer_width : DataType-F ℕ (Unit {0}) → ℕ
layer_width (DataType-F.Array inner width) = width * inner
layer_width _ = 1

-- the product of the widths of arrays of arrays
abbrev pub total_width : DataType → ℕ
total_width = fold-DataType ℕ (Unit {0}) layer_width (λ f. tt)

abbrev pub layer_depth : DataType-F ℕ (Unit {0}) → ℕ
layer_depth (DataType-F.List inner) = suc inner
layer_depth (DataType-F.Array inner _) = suc inner
layer_depth _ = zero

-- how deep lists and arrays are nested in a type
abbrev pub depth : DataType → ℕ
depth = fold-DataType ℕ (Unit {0}) layer_depth (λ f. tt)

-- the type inside of n lists and arrays
abbrev pub inside : ℕ → DataType → DataType
inside zero d = d
inside (suc n) d = inside n (or_type d (inner_of d))

-- the innermost type of elements
abbrev pub leaf : DataType → DataType
leaf d = inside (depth d) d
