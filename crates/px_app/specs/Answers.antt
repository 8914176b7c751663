-- What is expected for a document, in the context that the words ask for.
use Rattle.std.specs.Prelude.{◌≡◌, ◌≢◌, ◌⊎◌, ◌^◌, ◌-◌, ℕ, min, List, [], map, Option, Some, option_map, Result, Ok}
use Rattle.px_base.specs.declared.error.PlanError.{PlanError}
use Rattle.px_base.specs.declared.error.PlanError.TheVariants.{OutOfMemory}
use Rattle.px_semantics.specs.Rows.{Contents}
use Rattle.px_expr.specs.declared.context.Context.{Context}
use Rattle.px_expr.specs.Plan.{Catalog}
use Rattle.px_expr.specs.Tree.{Tree, trees, tree_of}
use Rattle.px_meaning.specs.Check.{Typed, check_list}
use Rattle.px_meaning.specs.Mean.{mean_list}
use Rattle.px_meaning.specs.Rewrites.{IsRewrite}
use Rattle.px_meaning.specs.Rewriting.{Pairwise, AllReach, AreNormal, Moves}
use Rattle.px_eval.specs.Own.{frame_catalog}
use Rattle.px_eval.specs.Selected.{checked_trees, MeansTheSame, IsRefusal}
use Rattle.px_document.specs.declared.document.Document.{Document}
use Rattle.px_document.specs.Document.{document_of_bytes}
use Rattle.px_document.specs.Report.{report, line, error_data}

-- the document's columns by their names and types, and no kernels
abbrev pub catalog : Document → Catalog
catalog d = frame_catalog [] d.frame

-- the checked trees of its expressions, or the first fault
abbrev pub check_of : Context → Document → Result (List Typed) PlanError
check_of context d = check_list (catalog d) context (map tree_of d.exprs.entries)

-- the columns that checked trees mean on its frame
abbrev pub meaning_of : Context → Document → List Typed → Option (List Contents)
meaning_of context d ts = mean_list [] d.frame context (checked_trees ts)

-- The columns are what the checked trees mean on the document's frame. Each answered tree is reached from the
-- checked one in its place by rewrites, none of which applies at any place of it, and on every frame of the schema
-- it means what that one means, or nothing where that means nothing. The number is a number of moves that lead
-- from the checked trees to the answered ones, or the greatest of 64 bits where that is past it.
pub record IsAnswer (context : Context) (d : Document) (ts : List Typed) (columns : List Contents) (us : List Tree) (rewrites : ℕ) : Type 0 where
  pub checks : check_of context d ≡ Ok ts
  pub means : meaning_of context d ts ≡ Some columns
  pub reached : AllReach (IsRewrite (catalog d) context) (trees (checked_trees ts)) (trees us)
  pub normal : AreNormal (IsRewrite (catalog d) context) (trees us)
  pub same : Pairwise (MeansTheSame (catalog d) context) (trees (checked_trees ts)) (trees us)
  pub counted : (r : ℕ) × Moves (IsRewrite (catalog d) context) (trees (checked_trees ts)) (trees us) r × (rewrites ≡ min r (2 ^ 64 - 1))

-- such columns, trees and number are an answer to the document
abbrev pub IsAnswered : Context → Document → List Contents → List Tree → ℕ → Type 0
IsAnswered context d columns us rewrites = (ts : List Typed) × IsAnswer context d ts columns us rewrites

-- the document is refused for this fault: the first of its check, or one that the checked list has on its frame
abbrev pub IsFault : Context → Document → PlanError → Type 0
IsFault context d e = (e ≢ OutOfMemory) × IsRefusal (catalog d) d.frame (check_of context d) e

-- the text is that of the report
abbrev pub IsReportText : List Contents → List Tree → ℕ → List ℕ → Type 0
IsReportText columns us rewrites text = option_map line (report columns us rewrites) ≡ Some text

-- the text is the report of an answer to the document
pub record IsReportOf (context : Context) (d : Document) (text : List ℕ) : Type 0 where
  pub columns : List Contents
  pub answered_trees : List Tree
  pub rewrites : ℕ
  pub answers : IsAnswered context d columns answered_trees rewrites
  pub writes : IsReportText columns answered_trees rewrites text

-- the text is the line of a fault for which the document is refused
pub record IsErrorLineOf (context : Context) (d : Document) (text : List ℕ) : Type 0 where
  pub fault : PlanError
  pub faults : IsFault context d fault
  pub writes : text ≡ line (error_data fault)

-- the bytes are a document, and the text is the report of an answer to it
abbrev pub IsReport : Context → List ℕ → List ℕ → Type 0
IsReport context bytes text = (d : Document) × (document_of_bytes bytes ≡ Some d) × IsReportOf context d text

-- the bytes are a document that is refused, and the text is the line of a fault
abbrev pub IsErrorLine : Context → List ℕ → List ℕ → Type 0
IsErrorLine context bytes text = (d : Document) × (document_of_bytes bytes ≡ Some d) × IsErrorLineOf context d text

-- what is expected for the bytes of a document
abbrev pub IsExpected : Context → List ℕ → List ℕ → Type 0
IsExpected context bytes text = IsReport context bytes text ⊎ IsErrorLine context bytes text
