-- What a look into a value says of it.
use Rattle.std.proofs.Common.{◌≡◌, ◌≢◌, ◌↔◌, ℤ, Bool, true, false, cond, List, [], ◌∷◌, length, Option, Some, None, option_map, IfSome, IsSome, string_bytes, refl, sym, ap, ◌∙◌, arith}
use Rattle.std.specs.Prelude.{option_and_then}
use Rattle.std.specs.List.{slice_get}
use Rattle.serde_json.specs.Data.{Data, null, boolean, number, string, array, object, Members}
use Rattle.serde_json.specs.Find.{as_object}
use Rattle.serde_json.specs.View.{view, members_view}
use Rattle.serde_json.proofs.Views.{Entry, members_len-members_view}
use Rattle.px_types.specs.Integers.{InRange}
use Rattle.px_types.specs.ValueTypes.{holds}
use Rattle.px_types.specs.declared.value_type.ValueType.{ValueType}
use Rattle.px_semantics.proofs.CastLemmas.{holds_decides}
use Rattle.px_json.specs.JsonAccess.{only_member, member_count, integer_of, if_in_range, number_in}

pub object_of : (d : Data) (ms : Members) → Some ms ≡ as_object d → d ≡ object ms
object_of null ms e = cc
object_of (boolean b) ms e = cc
object_of (number n) ms e = cc
object_of (string s) ms e = cc
object_of (array ds) ms e = cc
object_of (object os) ms e = cc

one : (es : List Entry) (e : Entry) → length es ≡ 1 → slice_get es 0 ≡ Some e → only_member (object (members_view es)) ≡ Some (string_bytes e.0, view e.1)
one [] e n is = cc
one (f ∷ []) e n is = ap (λ o. o) (let same : f ≡ e = cc in ap (λ (g : Entry). Some (string_bytes g.0, view g.1)) same)
one (f ∷ g ∷ es) e n is = absurd (omega arith)

pub only_member_one : (d : Data) (es : List Entry) (e : Entry) → Some (members_view es) ≡ as_object d → length es ≡ 1 → slice_get es 0 ≡ Some e → Some (string_bytes e.0, view e.1) ≡ only_member d
only_member_one d es e is n first = rw (object_of d (members_view es) is) (sym (one es e n first))

several : (es : List Entry) → length es ≢ 1 → None ≡ only_member (object (members_view es))
several [] n = refl
several (f ∷ []) n = absurd (n refl)
several (f ∷ g ∷ es) n = refl

pub only_member_several : (d : Data) (es : List Entry) → Some (members_view es) ≡ as_object d → length es ≢ 1 → None ≡ only_member d
only_member_several d es is n = rw (object_of d (members_view es) is) (several es n)

pub member_count-object : (d : Data) (es : List Entry) → Some (members_view es) ≡ as_object d → member_count d ≡ length es
member_count-object d es is = rw (object_of d (members_view es) is) (members_len-members_view es)

-- a number that the type holds is read, and no other
pub held_number : {T : Type 0} (integer : T → ℤ) (k : ValueType) (d : Data) (z w : ℤ) (o : Option T) → Some z ≡ integer_of d → w ≡ z → IfSome o (λ x. integer x ≡ w) → (IsSome o ↔ InRange k w) → option_map integer o ≡ number_in k d
held_number {T} integer k d z w o read same value inside = held o value inside ∙ ap (if_in_range k) same ∙ ap (λ (y : Option ℤ). option_and_then (if_in_range k) y) read
  where
    none : (b : Bool) → holds k w ≡ b → (InRange k w → ⊥) → None ≡ cond b (Some w) None
    none true e out = elim (out ((holds_decides k w).0 e)) [ ]
    none false e out = refl

    held : (o : Option T) → IfSome o (λ x. integer x ≡ w) → (IsSome o ↔ InRange k w) → option_map integer o ≡ if_in_range k w
    held (Some x) is inside = ap Some is ∙ ap (λ b. cond b (Some w) None) (sym ((holds_decides k w).1 (inside.0 refl)))
    held None is inside = none (holds k w) refl (λ h. let e = inside.1 h in cc)
