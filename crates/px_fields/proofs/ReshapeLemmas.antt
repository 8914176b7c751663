-- Lemmas of sizes and widths.
use denote.Hole.Carrier.{roll}
use Rattle.std.proofs.Common.{◌≡◌, ◌∙◌, ℕ, zero, suc, ◌*◌, ◌^◌, ◌<◌, ◌≤◌, List, [], ◌∷◌, Option, Some, None, refl, sym, ap, get_or, drop, length, drop-cons, arith}
use Rattle.std.proofs.lemmas.List.{drop_all}
use Rattle.std.specs.Option.{SomeIff}
use Rattle.std.specs.List.{fold}
use Rattle.px_types.specs.declared.dtype.DataType.{DataType, DataType-F}
use Rattle.px_types.specs.declared.dtype.DataType.TheFolds.{fold-roll-DataType}
use Rattle.px_types.specs.declared.dtype.DataType.TheViews.{roll-DataType}
use Rattle.px_types.specs.declared.dtype.DataType.TheVariants as dtype
use Rattle.px_functions.specs.declared.small.ReshapeDimension.{ReshapeDimension}
use Rattle.px_functions.specs.SmallTypes.{size_of}
use Rattle.px_fields.specs.TypeChanges.{total_width, layer_width}
use Rattle.px_fields.specs.Reshape.{times, divisor, in_u64}

-- Products of sizes.

past : (n : ℕ) → 2 ^ 64 ≤ n → divisor n ≡ None
past n h = grind arith

-- a size of zero divides nothing
divisor_zero : (ds : List ReshapeDimension) → divisor (fold times 0 ds) ≡ None
divisor_zero [] = refl
divisor_zero (d ∷ ds) = let e : 0 * size_of 1 d ≡ 0 = omega arith in rw e (divisor_zero ds)

by-size : (n s : ℕ) (ds : List ReshapeDimension) → 2 ^ 64 ≤ n → ((m : ℕ) → 2 ^ 64 ≤ m → divisor (fold times m ds) ≡ None) → divisor (fold times (n * s) ds) ≡ None
by-size n zero ds h rest = let e : n * 0 ≡ 0 = omega arith in rw e (divisor_zero ds)
by-size n (suc s) ds h rest = rest (n * suc s) (grind arith)

-- a product past u64 stays past it, or is zero
divisor_past : (n : ℕ) (ds : List ReshapeDimension) → 2 ^ 64 ≤ n → divisor (fold times n ds) ≡ None
divisor_past n [] h = past n h
divisor_past n (d ∷ ds) h = by-size n (size_of 1 d) ds h (λ m k. divisor_past m ds k)

-- one size more
times_one : (product i size o : ℕ) (ds : List ReshapeDimension) (other : ReshapeDimension)
    → o ≡ fold times product (drop i ds) → i < length ds → size ≡ size_of 1 (get_or ds i other) → o ≡ fold times (product * size) (drop (suc i) ds)
times_one product i size o ds other e h k =
    e ∙ rw (drop-cons ds i other) (ap (λ (z : ℕ). fold times (product * z) (drop (suc i) ds)) (sym k))

pub stops_at_zero : (product i size o : ℕ) (ds : List ReshapeDimension) (other : ReshapeDimension)
    → o ≡ fold times product (drop i ds) → i < length ds → size ≡ size_of 1 (get_or ds i other) → size ≡ 0 → None ≡ divisor o
stops_at_zero product i size o ds other e h k z =
    let m = times_one product i size o ds other e h k in
    let p : product * size ≡ 0 = rw z (omega arith) in
    sym (rw (m, p) (divisor_zero (drop (suc i) ds)))

pub stops_past : (product i size o : ℕ) (ds : List ReshapeDimension) (other : ReshapeDimension)
    → o ≡ fold times product (drop i ds) → i < length ds → size ≡ size_of 1 (get_or ds i other) → (product * size < 2 ^ 64 → ⊥) → None ≡ divisor o
stops_past product i size o ds other e h k big =
    let m = times_one product i size o ds other e h k in
    let p : 2 ^ 64 ≤ product * size = omega (arith, big) in
    sym (rw m (divisor_past (product * size) (drop (suc i) ds) p))

at_end : (product : ℕ) → 0 < product → product < 2 ^ 64 → divisor product ≡ Some product
at_end product h k = grind arith

pub stops_at_end : (product i o : ℕ) (ds : List ReshapeDimension)
    → o ≡ fold times product (drop i ds) → length ds ≤ i → 0 < product → product < 2 ^ 64 → Some product ≡ divisor o
stops_at_end product i o ds e h low high =
    let n : drop i ds ≡ [] = drop_all i ds h in
    let p : o ≡ product = e ∙ rw n refl in
    sym (rw p (at_end product low high))

-- Widths of arrays.

pub total_width-array : (inner : DataType) (width : ℕ) → total_width (dtype.Array inner width) ≡ width * total_width inner
unfolding roll-DataType roll
total_width-array inner width = fold-roll-DataType ℕ (Unit {0}) layer_width (λ f. tt) (DataType-F.Array inner width)

in_past : (t : ℕ) → 2 ^ 64 ≤ t → in_u64 t ≡ None
in_past t h = grind arith

in_below : (t : ℕ) → t < 2 ^ 64 → in_u64 t ≡ Some t
in_below t h = grind arith

none-past : (t : ℕ) → in_u64 t ≡ None → 2 ^ 64 ≤ t
none-past t e = grind arith

some-below : (t n : ℕ) → in_u64 t ≡ Some n → (n ≡ t) × (t < 2 ^ 64)
some-below t n e = grind arith

pub width_past : (width total : ℕ) → (width ≡ 0 → ⊥) → in_u64 total ≡ None → None ≡ in_u64 (width * total)
width_past zero total some e = absurd (some refl)
width_past (suc k) total some e =
    let h : 2 ^ 64 ≤ total = none-past total e in
    let m : total ≤ suc k * total = grind arith in
    sym (in_past (suc k * total) (omega arith))

pub width_times : (width total n : ℕ) (r : Option ℕ) → in_u64 total ≡ Some n → SomeIff r (n * width < 2 ^ 64) (n * width) → r ≡ in_u64 (width * total)
width_times width total n None e s =
    let h = some-below total n e in
    let p : n * width ≡ width * total = rw h.0 (grind arith) in
    sym (in_past (width * total) (rw (← p) (omega (arith, s))))
width_times width total n (Some m) e s =
    let h = some-below total n e in
    let p : n * width ≡ width * total = rw h.0 (grind arith) in
    sym (in_below (width * total) (rw (← p) s.0) ∙ ap Some (sym p ∙ sym s.1))
