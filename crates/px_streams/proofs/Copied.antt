-- What a read from memory takes and gives.
use Rattle.std.proofs.Common.{◌≡◌, ℕ, ◌+◌, ◌-◌, ◌<◌, ◌≤◌, List, [], ◌++◌, length, take, drop, min, sym, ap, ◌∙◌, arith, length-append, length-drop}
use Rattle.std.proofs.lemmas.List.{take-append-drop, length-take-le, drop-drop}
use Rattle.std.proofs.Math.Seq.{take-append_seam}
use Rattle.std.proofs.Math.ListN.{drop_of_length-le}

copied_long : (bytes copied : List ℕ) (at n : ℕ) → copied ≡ take n (drop at bytes) → n ≤ length bytes - at → length copied ≡ n
copied_long bytes copied at n is le = ap length is ∙ length-take-le n (drop at bytes) (omega (arith, length-drop at bytes))

front : (copied more : List ℕ) (n : ℕ) → length copied ≡ n → take n (copied ++ more) ≡ copied
front copied more n h = ap (λ k. take k (copied ++ more)) (sym h) ∙ take-append_seam copied more

taken : (bytes copied buffer : List ℕ) (at n : ℕ) → copied ≡ take n (drop at bytes) → n ≤ length bytes - at
    → drop at bytes ≡ take n (copied ++ drop n buffer) ++ drop (at + n) bytes
taken bytes copied buffer at n is le =
    sym (take-append-drop n (drop at bytes))
    ∙ ap (λ l. l ++ drop n (drop at bytes)) (sym is ∙ sym (front copied (drop n buffer) n (copied_long bytes copied at n is le)))
    ∙ ap (λ l. take n (copied ++ drop n buffer) ++ l) (drop-drop n at bytes)

-- a read of n bytes from the place `at`
pub record IsTaken (bytes copied buffer : List ℕ) (at n : ℕ) : Type 0 where
  pub all : drop at bytes ≡ take n (copied ++ drop n buffer) ++ drop (at + n) bytes
  pub end : n ≡ 0 → 0 < length (copied ++ drop n buffer) → drop (at + n) bytes ≡ []

pub is_taken : (bytes copied buffer : List ℕ) (at n len : ℕ) → copied ≡ take (at + n - at) (drop at bytes) → n ≡ min (length buffer) (len - at) → len ≡ length bytes
    → IsTaken bytes copied buffer at n
is_taken bytes copied buffer at n len is count long =
    let back : at + n - at ≡ n = omega arith in
    let part : copied ≡ take n (drop at bytes) = is ∙ ap (λ k. take k (drop at bytes)) back in
    let le : n ≤ length bytes - at = omega arith in
    record {
      all = taken bytes copied buffer at n part le;
      end = λ zero room. drop_of_length-le bytes (omega (arith, length-append copied (drop n buffer), length-drop n buffer, copied_long bytes copied at n part le));
    }
