-- What a call leaves behind, from what is answered to its document.
use Rattle.std.proofs.Common.{◌≡◌, ◌≢◌, ◌⊎◌, inl, inr, ◌<◌, ◌≤◌, ◌++◌, ℕ, List, [], length, drop, Option, Some, None, Result, Ok, Err, refl, sym, ◌∙◌, ap, subst, arith, nat_lt}
use Rattle.std.proofs.lemmas.Bool.{cond_both, cases_lt}
use Rattle.px_base.specs.declared.error.PlanError.{PlanError}
use Rattle.px_semantics.specs.Rows.{Contents}
use Rattle.px_expr.specs.declared.context.Context.{Context}
use Rattle.px_meaning.specs.Check.{Typed}
use Rattle.px_document.specs.declared.document.Document.{Document}
use Rattle.px_document.specs.Document.{document_of_bytes}
use Rattle.px_streams.specs.declared.source.TheConstants.{LIMIT}
use Rattle.px_app.specs.Answers.{check_of, meaning_of, IsExpected}
use Rattle.px_app.specs.Statuses.{status_of, status_of_document, status_of_check, status_of_columns, HasText}
use Rattle.px_app.specs.Written.{IsAnswerTo}
use Rattle.px_c.specs.Calls.{IsCallIn}

-- a status of bytes is one of four
module _ (P : ℕ → Type 0) (zero_p : P 0) (one_p : P 1) (two_p : P 2) (seven_p : P 7) (context : Context) where
  of_columns : (o : Option (List Contents)) → P (status_of_columns o)
  of_columns (Some columns) = zero_p
  of_columns None = one_p

  of_check : (d : Document) (r : Result (List Typed) PlanError) → P (status_of_check context d r)
  of_check d (Ok ts) = of_columns (meaning_of context d ts)
  of_check d (Err e) = one_p

  of_document : (o : Option Document) → P (status_of_document context o)
  of_document (Some d) = of_check d (check_of context d)
  of_document None = two_p

  of_bytes : (limit : ℕ) (bytes : List ℕ) → P (status_of limit context bytes)
  of_bytes limit bytes = cond_both (nat_lt limit (length bytes)) 7 (status_of_document context (document_of_bytes bytes)) P (λ _. seven_p) (λ _. of_document (document_of_bytes bytes))

-- none of the statuses that stand for a fault of reading, a short buffer and another context
abbrev IsOfAnswer : ℕ → Type 0
IsOfAnswer s = (s ≤ 7) × (s ≢ 4) × (s ≢ 5) × (s ≢ 6)

module _ (context : Context) (bytes text : List ℕ) (status : ℕ) (a : IsAnswerTo context bytes status text) where
  statuses : (P : ℕ → Type 0) → P 0 → P 1 → P 2 → P 3 → P 7 → (status ≡ status_of LIMIT context bytes) ⊎ (status ≡ 3) → P status
  statuses P p0 p1 p2 p3 p7 (inl e) = subst P (sym e) (of_bytes P p0 p1 p2 p7 context LIMIT bytes)
  statuses P p0 p1 p2 p3 p7 (inr e) = subst P (sym e) p3

  of_answer : IsOfAnswer status
  of_answer = statuses IsOfAnswer (omega arith, omega arith, omega arith, omega arith) (omega arith, omega arith, omega arith, omega arith) (omega arith, omega arith, omega arith, omega arith)
      (omega arith, omega arith, omega arith, omega arith) (omega arith, omega arith, omega arith, omega arith) a.of_bytes

  not_empty : (s : ℕ) → 0 < length text → 1 < s → (s ≢ 0 → s ≢ 1 → text ≡ []) → HasText s
  not_empty s long high none = absurd (omega (arith, long, ap length (none (omega arith) (omega arith))))

  has_text : 0 < length text → HasText status
  has_text long = statuses (λ s. (s ≢ 0 → s ≢ 1 → text ≡ []) → HasText s) (λ _. inl refl) (λ _. inr refl) (not_empty 2 long (omega arith)) (not_empty 3 long (omega arith)) (not_empty 7 long (omega arith)) a.of_bytes a.no_text

  expected : HasText status → IsExpected context bytes text
  expected (inl e) = inl (a.answered e)
  expected (inr e) = inr (a.refused e)

  bytes_have_text : HasText status → (status ≡ status_of LIMIT context bytes) ⊎ (status ≡ 3) → HasText (status_of LIMIT context bytes)
  bytes_have_text has (inl e) = subst HasText e has
  bytes_have_text (inl zero) (inr three) = absurd (omega (arith, zero, three))
  bytes_have_text (inr one) (inr three) = absurd (omega (arith, one, three))

with_status : (context : Context) (bytes : List ℕ) (s : ℕ) → (s ≡ status_of LIMIT context bytes) ⊎ (s ≡ 3) → (s ≡ status_of LIMIT context bytes) ⊎ (s ≡ 3) ⊎ ((s ≡ 5) × HasText (status_of LIMIT context bytes))
with_status context bytes s (inl e) = inl e
with_status context bytes s (inr e) = inr (inl e)

-- where the text fits
fits : (context : Context) (bytes text old new : List ℕ) (status n : ℕ) → IsAnswerTo context bytes status text → n ≡ length text
    → new ≡ text ++ drop (length text) old → IsCallIn context bytes old new status n
fits context bytes text old new status n a long put =
    let usual = of_answer context bytes text status a in
    record {
      range = usual.0;
      no_read_fault = usual.1;
      known_context = usual.3;
      answered = λ e. (text, a.answered e, long, put);
      refused = λ e. (text, a.refused e, long, put);
      too_short = λ e. absurd (usual.2 e);
      buffer_unchanged = λ z o. put ∙ ap (λ (t : List ℕ). t ++ drop (length t) old) (a.no_text z o);
      no_reply = λ z o _. long ∙ ap length (a.no_text z o);
      of_document = with_status context bytes status a.of_bytes;
    }

-- where it is longer than the buffer
longer : (context : Context) (bytes text old new : List ℕ) (status n : ℕ) → IsAnswerTo context bytes status text → n ≡ length text
    → length old < length text → new ≡ old → IsCallIn context bytes old new 5 n
longer context bytes text old new status n a long over same =
    let has = has_text context bytes text status a (omega (arith, over)) in
    record {
      range = omega arith;
      no_read_fault = λ (e : 5 ≡ 4). absurd (omega (arith, e));
      known_context = λ (e : 5 ≡ 6). absurd (omega (arith, e));
      answered = λ (e : 5 ≡ 0). absurd (omega (arith, e));
      refused = λ (e : 5 ≡ 1). absurd (omega (arith, e));
      too_short = λ _. (text, expected context bytes text status a has, long, over);
      buffer_unchanged = λ _ _. same;
      no_reply = λ _ _ other. absurd (other refl);
      of_document = inr (inr (refl, bytes_have_text context bytes text status a has a.of_bytes));
    }

-- what delivering an answer leaves behind
pub delivered : (context : Context) (bytes text old new : List ℕ) (status s n : ℕ) → IsAnswerTo context bytes status text → n ≡ length text
    → (length text ≤ length old → (s ≡ status) × (new ≡ text ++ drop (length text) old)) → (length old < length text → (s ≡ 5) × (new ≡ old)) → IsCallIn context bytes old new s n
delivered context bytes text old new status s n a long in_time over = by_length (cases_lt (length old) (length text))
  where
    by_length : (length old < length text) ⊎ (length text ≤ length old) → IsCallIn context bytes old new s n
    by_length (inl past) =
        let h = over past in
        subst (λ (x : ℕ). IsCallIn context bytes old new x n) (sym h.0) (longer context bytes text old new status n a long past h.1)
    by_length (inr within) =
        let h = in_time within in
        subst (λ (x : ℕ). IsCallIn context bytes old new x n) (sym h.0) (fits context bytes text old new status n a long h.1)
