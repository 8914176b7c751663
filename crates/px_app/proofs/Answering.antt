-- What the parts of an answer say together.
use Rattle.std.proofs.Common.{◌≡◌, ◌≢◌, inl, inr, ◌<◌, ℕ, List, [], length, take, map, Option, Some, None, Result, Ok, Err, IfSome, IsSome, IsOk, IfOk, IfErr, OnOk, ◌∙◌, refl, sym, ap, subst}
use Rattle.std.proofs.lemmas.Bool.{false≢true}
use Rattle.std.proofs.lemmas.List.Elements.{All-map, All-weaker}
use Rattle.std.specs.Io.KnownBytes.{Appends}
use Rattle.px_base.specs.declared.error.PlanError.{PlanError}
use Rattle.px_base.specs.declared.error.PlanError.TheVariants.{OutOfMemory}
use Rattle.px_types.specs.declared.dtype.DataType.{DataType}
use Rattle.px_semantics.specs.Rows.{TypedRows, Contents}
use Rattle.px_expr.specs.declared.context.Context.{Context}
use Rattle.px_expr.specs.declared.expr.Expr.{Expr}
use Rattle.px_expr.specs.Plan.{Catalog}
use Rattle.px_expr.specs.Kernel.{Kernel, all_kernels}
use Rattle.px_expr.specs.Tree.{Tree, trees, tree_of}
use Rattle.px_meaning.specs.Check.{Typed, HasType, IsChecked, check_list}
use Rattle.px_meaning.specs.Mean.{mean_list}
use Rattle.px_meaning.specs.Rewrites.{IsRewrite}
use Rattle.px_meaning.specs.Rewriting.{Pairwise, AllReach, AreNormal}
use Rattle.px_meaning.proofs.Lines.{IsRewrite-keeps}
use Rattle.px_meaning.proofs.Lists.{check_list-checked, reached-checked}
use Rattle.px_forms.specs.Written.{all_data}
use Rattle.px_forms.proofs.HasForms.{checked_list_has_forms}
use Rattle.px_document.specs.declared.document.Document.{Document}
use Rattle.px_app.specs.declared.status.TheConstants.{ANSWERED, REFUSED}
use Rattle.px_app.specs.declared.reply.Answer.{Answer}
use Rattle.px_document.specs.Report.{line, error_data}
use Rattle.px_app.specs.Answers.{catalog, check_of, meaning_of, IsAnswered, IsFault, IsExpected}
use Rattle.px_eval.specs.Own.{frame_catalog}
use Rattle.px_eval.specs.Selected.{Selected, answered, checked_trees, OnChecked, MeansTheSame, IsCounted, IsRefusal}
use Rattle.px_app.specs.Statuses.{status_of_document}
use Rattle.px_app.specs.Written.{IfBytesKnown, PutsPart, IsReply, IsReplyTo}

-- where there are no kernels, none are defined
pub none_defined : {K : Type 0} (declared : K → List DataType → Option DataType) (answer : K → List TypedRows → Option TypedRows) (ks : List K) → ks ≡ [] → all_kernels declared answer ks ≡ []
none_defined declared answer ks e = ap (all_kernels declared answer) e

-- the check of a document with these kernels
abbrev check_with : List Kernel → Context → Document → Result (List Typed) PlanError
check_with kernels context d = check_list (frame_catalog kernels d.frame) context (map tree_of d.exprs.entries)

module _ (c : Catalog) (context : Context) where
  all_checked : (ws : List Typed) → (us : List Tree) → map (λ (w : Typed). w.tree) ws ≡ us → check_list c context us ≡ Ok ws → IsSome (all_data us)
  all_checked ws us same checks =
      let each = All-weaker (λ (w : Typed). HasType c w.tree w.value_type) (λ (w : Typed). IsChecked c w.tree) (λ w h. (w.value_type, h)) ws (check_list-checked c context us ws checks) in
      subst (λ (l : List Tree). IsSome (all_data l)) same (checked_list_has_forms c (map (λ (w : Typed). w.tree) ws) (All-map (IsChecked c) (λ (w : Typed). w.tree) ws each))

  -- what a checked list reaches can be written
  pub reached_has_forms : (exprs : List Tree) (ts : List Typed) (us : List Tree) → check_list c context exprs ≡ Ok ts
      → AllReach (IsRewrite c context) (trees (checked_trees ts)) (trees us) → IsSome (all_data us)
  reached_has_forms exprs ts us e ways =
      let (ws, checks, same, types) = reached-checked c context (IsRewrite c context) (IsRewrite-keeps c context) exprs ts us e ways in
      all_checked ws us same checks

-- what is known of a run over a document with these kernels
pub record Runs (kernels : List Kernel) (context : Context) (d : Document) (r : Result Selected PlanError) (rise : ℕ) : Type 0 where
  pub checked : OnOk r (IsOk (check_with kernels context d))
  pub columns : IfOk r (λ s. OnChecked (check_with kernels context d) (λ ts. mean_list kernels d.frame context ts ≡ Some s.columns))
  pub reach : IfOk r (λ s. OnChecked (check_with kernels context d) (λ ts. AllReach (IsRewrite (frame_catalog kernels d.frame) context) (trees ts) (trees (answered s))))
  pub normal : IfOk r (λ s. AreNormal (IsRewrite (frame_catalog kernels d.frame) context) (trees (answered s)))
  pub meaning : IfOk r (λ s. OnChecked (check_with kernels context d) (λ ts. Pairwise (MeansTheSame (frame_catalog kernels d.frame) context) (trees ts) (trees (answered s))))
  pub rewrites : IfOk r (λ s. OnChecked (check_with kernels context d) (λ ts. IsCounted (IsRewrite (frame_catalog kernels d.frame) context) ts (answered s) s.rewrites rise))
  pub err : IfErr r (λ e. IsRefusal (frame_catalog kernels d.frame) d.frame (check_with kernels context d) e)
  pub complete : OnChecked (check_with kernels context d) (λ ts. IsSome (mean_list kernels d.frame context ts) → IfErr r (λ e. e ≡ OutOfMemory))

module _ (context : Context) (d : Document) (rise : ℕ) where
  answer_of : (s : Selected) → Runs [] context d (Ok s) rise → (r : Result (List Typed) PlanError) → check_of context d ≡ r → IsOk r → IsAnswered context d s.columns (answered s) s.rewrites
  answer_of s run (Err e) is h = absurd (false≢true h)
  answer_of s run (Ok ts) is h =
      let counted = run.rewrites ts is in (
        ts,
        record {
          checks = is;
          means = run.columns ts is;
          reached = run.reach ts is;
          normal = run.normal;
          same = run.meaning ts is;
          counted = (counted.rewrites, counted.moves, counted.count_is);
        },
      )

  without : (kernels : List Kernel) (r : Result Selected PlanError) → kernels ≡ [] → Runs kernels context d r rise → Runs [] context d r rise
  without kernels r none run = subst (λ (ks : List Kernel). Runs ks context d r rise) none run

  answers : (r : Result Selected PlanError) → Runs [] context d r rise → IfOk r (λ s. IsAnswered context d s.columns (answered s) s.rewrites)
  answers (Ok s) run = answer_of s run (check_of context d) refl run.checked
  answers (Err e) run = tt

  -- what a run without kernels gives is an answer
  pub run_answers : (kernels : List Kernel) (r : Result Selected PlanError) → kernels ≡ [] → Runs kernels context d r rise → IfOk r (λ s. IsAnswered context d s.columns (answered s) s.rewrites)
  run_answers kernels r none run = answers r (without kernels r none run)

meaning_refused : (context : Context) (d : Document) (ts : List Typed) (e : PlanError) (o : Option (List Contents)) → meaning_of context d ts ≡ o → check_of context d ≡ Ok ts
    → (IsSome (meaning_of context d ts) → e ≡ OutOfMemory) → e ≢ OutOfMemory → status_of_document context (Some d) ≡ REFUSED
meaning_refused context d ts e (Some columns) is checks complete other = absurd (other (complete (rw is refl)))
meaning_refused context d ts e None is checks complete other = rw (checks, is) refl

-- a document with a fault is refused
fault_status : (context : Context) (d : Document) (e : PlanError) → IsRefusal (catalog d) d.frame (check_of context d) e
    → ((ts : List Typed) → check_of context d ≡ Ok ts → IsSome (meaning_of context d ts) → e ≡ OutOfMemory)
    → e ≢ OutOfMemory → status_of_document context (Some d) ≡ REFUSED
fault_status context d e (inl memory) complete other = absurd (other memory)
fault_status context d e (inr (inl check)) complete other = rw check refl
fault_status context d e (inr (inr (ts, checks, fault))) complete other = meaning_refused context d ts e (meaning_of context d ts) refl checks (complete ts checks) other

answer_status : (context : Context) (d : Document) (columns : List Contents) (us : List Tree) (rewrites : ℕ) → IsAnswered context d columns us rewrites → status_of_document context (Some d) ≡ ANSWERED
answer_status context d columns us rewrites (ts, a) = rw (a.checks, a.means) refl

forms_of : (context : Context) (d : Document) (r : Result Selected PlanError) → IfOk r (λ s. IsAnswered context d s.columns (answered s) s.rewrites) → IfOk r (λ s. IsSome (all_data (answered s)))
forms_of context d (Ok s) (ts, a) = reached_has_forms (catalog d) context (map tree_of d.exprs.entries) ts (answered s) a.checks a.reached
forms_of context d (Err e) h = tt

-- the trees of an answer can be written
pub run_forms : (context : Context) (d : Document) (rise : ℕ) (kernels : List Kernel) (r : Result Selected PlanError) → kernels ≡ [] → Runs kernels context d r rise → IfOk r (λ s. IsSome (all_data (answered s)))
run_forms context d rise kernels r none run = forms_of context d r (run_answers context d rise kernels r none run)

status_of_answer : (context : Context) (d : Document) (r : Result Selected PlanError) → IfOk r (λ s. IsAnswered context d s.columns (answered s) s.rewrites) → IfOk r (λ _. status_of_document context (Some d) ≡ ANSWERED)
status_of_answer context d (Ok s) h = answer_status context d s.columns (answered s) s.rewrites h
status_of_answer context d (Err e) h = tt

-- its document is answered
pub run_status : (context : Context) (d : Document) (rise : ℕ) (kernels : List Kernel) (r : Result Selected PlanError) → kernels ≡ [] → Runs kernels context d r rise → IfOk r (λ _. status_of_document context (Some d) ≡ ANSWERED)
run_status context d rise kernels r none run = status_of_answer context d r (run_answers context d rise kernels r none run)

-- a document that a run refuses has a fault
pub run_fault : (context : Context) (d : Document) (rise : ℕ) (kernels : List Kernel) (r : Result Selected PlanError) → kernels ≡ [] → Runs kernels context d r rise → IfErr r (λ e. e ≢ OutOfMemory → IsFault context d e)
run_fault context d rise kernels (Ok s) none run = tt
run_fault context d rise kernels (Err e) none run = λ other. (other, (without context d rise kernels (Err e) none run).err)

-- and is refused
pub run_refused : (context : Context) (d : Document) (rise : ℕ) (kernels : List Kernel) (r : Result Selected PlanError) → kernels ≡ [] → Runs kernels context d r rise
    → IfErr r (λ e. e ≢ OutOfMemory → status_of_document context (Some d) ≡ REFUSED)
run_refused context d rise kernels (Ok s) none run = tt
run_refused context d rise kernels (Err e) none run =
    let bare = without context d rise kernels (Err e) none run in
    fault_status context d e bare.err bare.complete

-- a run over these expressions is one over the document that has them
pub run_of_exprs : (kernels : List Kernel) (context : Context) (d : Document) (exprs : List Expr) (r : Result Selected PlanError) (rise : ℕ) → exprs ≡ d.exprs.entries
    → Runs kernels context (record { frame = d.frame; exprs = record { entries = exprs } }) r rise → Runs kernels context d r rise
run_of_exprs kernels context d exprs r rise is run =
    subst (λ (es : List Expr). Runs kernels context (record { frame = d.frame; exprs = record { entries = es } }) r rise) is run

-- what is expected where a document is refused
pub refusal_is_expected : (context : Context) (d : Document) (e : PlanError) (r : Result Answer PlanError) → (e ≢ OutOfMemory → IsFault context d e)
    → IfOk r (λ _. e ≢ OutOfMemory) → IfOk r (λ reply. reply.status ≡ REFUSED) → IfOk r (λ reply. reply.text.items ≡ line (error_data e))
    → IfOk r (λ reply. IsReplyTo context d reply.status reply.text.items)
refusal_is_expected context d e (Ok reply) fault other status text = inr (status, record { fault = e; faults = fault other; writes = text })
refusal_is_expected context d e (Err f) fault other status text = tt

pub refusal_status : (context : Context) (d : Document) (e : PlanError) (r : Result Answer PlanError) → (e ≢ OutOfMemory → status_of_document context (Some d) ≡ REFUSED)
    → IfOk r (λ _. e ≢ OutOfMemory) → IfOk r (λ reply. reply.status ≡ REFUSED) → IfOk r (λ reply. reply.status ≡ status_of_document context (Some d))
refusal_status context d e (Ok reply) refused other status = status ∙ sym (refused other)
refusal_status context d e (Err f) refused other status = tt

expected : (context : Context) (bytes text : List ℕ) (status : ℕ) → IsReply context bytes status text → IsExpected context bytes text
expected context bytes text status (d, reads, inl (zero, report)) = inl (d, reads, report)
expected context bytes text status (d, reads, inr (one, error)) = inr (d, reads, error)

-- what a failed write left behind is a part of what is expected
pub cut_off : (asked : Option Context) (context : Context) (left contents now : Option (List ℕ)) (bytes text : List ℕ) (status : ℕ) → asked ≡ Some context → IfSome left (λ whole. bytes ≡ whole)
    → IsReply context bytes status text → (count : ℕ) × (count < length text) × Appends contents now (take count text)
    → IfBytesKnown asked left (λ context bytes. PutsPart contents now (IsExpected context bytes))
cut_off asked context None contents now bytes text status is e reply part = rw is tt
cut_off asked context (Some whole) contents now bytes text status is e reply (count, short, written) =
    rw is (text, count, subst (λ (b : List ℕ). IsExpected context b text) e (expected context bytes text status reply), short, written)
