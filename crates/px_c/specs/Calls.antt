-- What a call asks for, and what it leaves behind.
use Rattle.std.specs.Prelude.{ℕ, ◌==◌, ◌≡◌, ◌≢◌, ◌⊎◌, ◌≤◌, ◌<◌, ◌++◌, List, length, drop, if◌then◌else◌, Option, Some, None}
use Rattle.px_expr.specs.declared.context.Context.{Context}
use Rattle.px_expr.specs.declared.context.Context.TheVariants.{Select, Filter}
use Rattle.px_streams.specs.declared.source.TheConstants.{LIMIT}
use Rattle.px_app.specs.declared.status.TheConstants.{ANSWERED, REFUSED, NO_MEMORY, READ_FAULT, TOO_LONG}
use Rattle.px_app.specs.Answers.{IsReport, IsErrorLine, IsExpected}
use Rattle.px_app.specs.Statuses.{HasText, status_of}
use Rattle.px_c.specs.declared.codes.TheConstants.{SELECT, FILTER, TOO_SHORT, OTHER_CONTEXT}

-- what the code of a context asks for
abbrev pub context_of : ℕ → Option Context
context_of code =
    if code == SELECT then Some Select
    else (if code == FILTER then Some Filter
    else None)

-- a text of this length, of which P holds, stands at the front of the buffer, and the rest is unchanged
abbrev pub Fills : (List ℕ → Type 0) → ℕ → List ℕ → List ℕ → Type 0
Fills P n old new = (text : List ℕ) × P text × (n ≡ length text) × (new ≡ text ++ drop (length text) old)

-- a text of this length, of which P holds, is longer than the buffer
abbrev pub IsLongerThan : (List ℕ → Type 0) → ℕ → List ℕ → Type 0
IsLongerThan P n buffer = (text : List ℕ) × P text × (n ≡ length text) × (length buffer < length text)

-- What a call in a context leaves behind: the buffer, a status and the length n of the reply. The status is that of
-- the document's bytes, but for out of memory and a short buffer, which only a text meets.
pub record IsCallIn (context : Context) (document old new : List ℕ) (status n : ℕ) : Type 0 where
  pub range : status ≤ TOO_LONG
  pub no_read_fault : status ≢ READ_FAULT
  pub known_context : status ≢ OTHER_CONTEXT
  pub answered : status ≡ ANSWERED → Fills (IsReport context document) n old new
  pub refused : status ≡ REFUSED → Fills (IsErrorLine context document) n old new
  pub too_short : status ≡ TOO_SHORT → IsLongerThan (IsExpected context document) n old
  pub buffer_unchanged : status ≢ ANSWERED → status ≢ REFUSED → new ≡ old
  pub no_reply : status ≢ ANSWERED → status ≢ REFUSED → status ≢ TOO_SHORT → n ≡ 0
  pub of_document : (status ≡ status_of LIMIT context document) ⊎ (status ≡ NO_MEMORY) ⊎ ((status ≡ TOO_SHORT) × HasText (status_of LIMIT context document))
