-- Which status belongs to which bytes.
use Rattle.std.specs.Prelude.{ℕ, ◌≡◌, ◌⊎◌, nat_lt, if◌then◌else◌, List, length, Option, Some, None, Result, Ok, Err}
use Rattle.px_base.specs.declared.error.PlanError.{PlanError}
use Rattle.px_semantics.specs.Rows.{Contents}
use Rattle.px_expr.specs.declared.context.Context.{Context}
use Rattle.px_meaning.specs.Check.{Typed}
use Rattle.px_document.specs.declared.document.Document.{Document}
use Rattle.px_document.specs.Document.{document_of_bytes}
use Rattle.px_app.specs.declared.status.TheConstants.{ANSWERED, REFUSED, NO_DOCUMENT, TOO_LONG}
use Rattle.px_app.specs.Answers.{check_of, meaning_of}

-- answered where the list means columns
abbrev pub status_of_columns : Option (List Contents) → ℕ
status_of_columns (Some columns) = ANSWERED
status_of_columns None = REFUSED

-- refused where the check is
abbrev pub status_of_check : Context → Document → Result (List Typed) PlanError → ℕ
status_of_check context d (Ok ts) = status_of_columns (meaning_of context d ts)
status_of_check context d (Err e) = REFUSED

abbrev pub status_of_document : Context → Option Document → ℕ
status_of_document context (Some d) = status_of_check context d (check_of context d)
status_of_document context None = NO_DOCUMENT

-- the status of bytes of which at most `limit` are read
abbrev pub status_of : ℕ → Context → List ℕ → ℕ
status_of limit context bytes = if nat_lt limit (length bytes) then TOO_LONG else status_of_document context (document_of_bytes bytes)

-- a status with which a text is written
abbrev pub HasText : ℕ → Type 0
HasText status = (status ≡ ANSWERED) ⊎ (status ≡ REFUSED)
