-- What one more read or write adds to what a loop has taken or written.
use Rattle.std.proofs.Common.{◌≡◌, ℕ, ◌+◌, ◌-◌, ◌<◌, ◌≤◌, List, [], ◌++◌, length, take, drop, IfSome, refl, sym, subst, append-nil, arith, length-append, ap, ◌∙◌}
use Rattle.std.proofs.Math.Seq.{take-add}
use Rattle.std.proofs.lemmas.List.{take_rest}
use Rattle.std.specs.declared.option.Option.{Option}
use Rattle.std.specs.Io.KnownBytes.{Consumes, Appends, Keeps, IsAtEnd}
use Rattle.std.proofs.KnownBytes.{Consumes-trans, Consumes-kept, Consumes-all, Appends-trans}
use Rattle.px_streams.specs.Reading.{TookMore, TookAtMost}

-- a read of no byte into a buffer with room says that all was taken
pub all_taken : (a b c : Option (List ℕ)) (bytes buffer : List ℕ) (n : ℕ) → Consumes a b bytes → n ≡ 0 → 0 < length buffer
    → Consumes b c (take n buffer) × (n ≡ 0 → 0 < length buffer → IsAtEnd c) → IfSome a (λ whole. bytes ≡ whole)
all_taken a b c bytes buffer n taken none room read =
    let P : ℕ → Type 0 = λ k. Consumes b c (take k buffer) in
    let Q : List ℕ → Type 0 = λ l. Consumes a c l in
    let both : Consumes a c (bytes ++ []) = Consumes-trans a b c bytes [] taken (subst P none read.0) in
    Consumes-all a c bytes [] bytes (subst Q (append-nil bytes) both) (read.1 none room) refl

-- the read that went past the limit
pub took_more : (a b c : Option (List ℕ)) (bytes buffer : List ℕ) (n most : ℕ) → Consumes a b bytes → Consumes b c (take n buffer) → n ≡ length (take n buffer)
    → most - length bytes < n → TookMore a c most
took_more a b c bytes buffer n most taken read count past =
    (bytes ++ take n buffer, Consumes-trans a b c bytes (take n buffer) taken read, omega (arith, length-append bytes (take n buffer), count, past))

-- a read that failed took nothing
pub took_at_most : (a b c : Option (List ℕ)) (bytes : List ℕ) (most : ℕ) → Consumes a b bytes → Keeps b c → length bytes ≤ most → TookAtMost a c most
took_at_most a b c bytes most taken kept within = (bytes, Consumes-kept a b c bytes taken kept, within)

-- a read that the loop kept
pub more_taken : (a b c : Option (List ℕ)) (bytes buffer now : List ℕ) (n : ℕ) → Consumes a b bytes → Consumes b c (take n buffer) → now ≡ bytes ++ take n buffer
    → Consumes a c now
more_taken a b c bytes buffer now n taken read grown =
    let P : List ℕ → Type 0 = λ l. Consumes a c l in
    subst P (sym grown) (Consumes-trans a b c bytes (take n buffer) taken read)

-- a write of the rest that took n bytes
pub more_written : (a b c : Option (List ℕ)) (xs : List ℕ) (i n : ℕ) → Appends a b (take i xs) → Appends b c (take n (take (length xs - i) (drop i xs)))
    → Appends a c (take (i + n) xs)
more_written a b c xs i n before now =
    let P : List ℕ → Type 0 = λ l. Appends a c l in
    subst P (ap (λ l. take i xs ++ take n l) (take_rest xs i) ∙ sym (take-add i n xs)) (Appends-trans a b c (take i xs) _ before now)

-- what a read adds is within the limit
pub within_limit : (bytes more now : List ℕ) (n most : ℕ) → now ≡ bytes ++ more → n ≡ length more → n ≤ most - length bytes → length bytes ≤ most → length now ≤ most
within_limit bytes more now n most grown count room within = omega (arith, ap length grown, length-append bytes more, count, room, within)
