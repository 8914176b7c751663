-- What a read of bytes says of the value that they are.
use Rattle.std.proofs.Common.{◌≡◌, ℕ, List, Bool, true, false, cond, Option, Some, None, refl, sym}
use Rattle.std.specs.Str.{IsUtf8, is_utf8}
use Rattle.std.proofs.lemmas.Str.{IsUtf8-from_is_utf8, is_utf8-from_IsUtf8}
use Rattle.serde_json.specs.Data.{Data}
use Rattle.serde_json.specs.Read.{read}
use Rattle.px_document.specs.Document.{value_of_bytes}

pub value_read : (bytes : List ℕ) (d : Data) → IsUtf8 bytes → read bytes ≡ Some d → Some d ≡ value_of_bytes bytes
value_read bytes d utf8 is = rw (is_utf8-from_IsUtf8 bytes utf8) (sym is)

refused : (b : Bool) (bytes : List ℕ) (value : Option Data) → is_utf8 bytes ≡ b → (IsUtf8 bytes → value ≡ None) → None ≡ cond b value None
refused true bytes value is none = sym (none (IsUtf8-from_is_utf8 bytes is))
refused false bytes value is none = refl

pub value_refused : (bytes : List ℕ) → (IsUtf8 bytes → read bytes ≡ None) → None ≡ value_of_bytes bytes
value_refused bytes none = refused (is_utf8 bytes) bytes (read bytes) refl none
