-- What a run wrote, where the words and the source tell enough.
use Rattle.std.specs.Prelude.{ℕ, ◌≡◌, ◌≢◌, ◌⊎◌, ◌<◌, List, [], length, take, IfSome, Option, Some}
use Rattle.std.specs.Io.KnownBytes.{Appends}
use Rattle.px_expr.specs.declared.context.Context.{Context}
use Rattle.px_streams.specs.declared.source.TheConstants.{LIMIT}
use Rattle.px_app.specs.declared.status.TheConstants.{ANSWERED, REFUSED, NO_MEMORY}
use Rattle.px_app.specs.Answers.{IsReportOf, IsErrorLineOf, IsReport, IsErrorLine}
use Rattle.px_app.specs.Statuses.{status_of}
use Rattle.px_document.specs.declared.document.Document.{Document}
use Rattle.px_document.specs.Document.{document_of_bytes}

-- it holds of the context and the bytes, where there are both
abbrev pub IfBytesKnown : Option Context → Option (List ℕ) → (Context → List ℕ → Type 0) → Type 0
IfBytesKnown context left P = IfSome context (λ c. IfSome left (P c))

-- a text of which P holds was put behind what was held
abbrev pub Puts : Option (List ℕ) → Option (List ℕ) → (List ℕ → Type 0) → Type 0
Puts old new P = (text : List ℕ) × P text × Appends old new text

-- a part at the front of such a text was put there, and not all of it
abbrev pub PutsPart : Option (List ℕ) → Option (List ℕ) → (List ℕ → Type 0) → Type 0
PutsPart old new P = (text : List ℕ) × (count : ℕ) × P text × (count < length text) × Appends old new (take count text)

-- the status and the text that are expected for a document
abbrev pub IsReplyTo : Context → Document → ℕ → List ℕ → Type 0
IsReplyTo context d status text = ((status ≡ ANSWERED) × IsReportOf context d text) ⊎ ((status ≡ REFUSED) × IsErrorLineOf context d text)

-- the status and the text that are expected for the bytes of a document
abbrev pub IsReply : Context → List ℕ → ℕ → List ℕ → Type 0
IsReply context bytes status text = (d : Document) × (document_of_bytes bytes ≡ Some d) × IsReplyTo context d status text

-- The status and the text are an answer to the bytes: at ANSWERED the text is the report, at REFUSED the line of a
-- fault, else there is none. The status is that of the bytes, but for out of memory.
pub record IsAnswerTo (context : Context) (bytes : List ℕ) (status : ℕ) (text : List ℕ) : Type 0 where
  pub answered : status ≡ ANSWERED → IsReport context bytes text
  pub refused : status ≡ REFUSED → IsErrorLine context bytes text
  pub no_text : status ≢ ANSWERED → status ≢ REFUSED → text ≡ []
  pub of_bytes : (status ≡ status_of LIMIT context bytes) ⊎ (status ≡ NO_MEMORY)
