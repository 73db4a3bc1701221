-- What the lister writes is the sheet: the header and a line for each listed run, in the listing's order.
-- Assumes nothing.
use Rattle.std.specs.Prelude as std
use Rattle.std.specs.Prelude.{None, Some}
use mathlib.Core.Path.{◌≡◌, refl, sym, ap, ◌∙◌}
use mathlib.Core.List.{List, [], ◌∷◌, ◌++◌, append_assoc}
use mathlib.Core.Option.{Option, none, some, get_or}
use Prim.Native.Nat.{ℕ, zero, suc, ◌+◌, ◌≤◌, ◌<◌, min}
use native.Mathlib.Omega.{arith}
use lib.ListN.{length, take, length-append}
use Rattle.texts.specs.declared.Output.{Output}
use Rattle.texts.specs.Text.{ascii, each, put}
use Rattle.texts.proofs.Putting.{put_then}
use Rattle.consensus.specs.declared.Shard.{Shard}
use Rattle.enabled_runs.specs.declared.RunEvent.{RunEvent}
use Rattle.enabled_runs.specs.declared.RunEvent.TheVariants.{Proposes, Delivers}
use Rattle.enabled_runs.specs.declared.CommitBy.{CommitBy}
use Rattle.enabled_runs.specs.Enabled.{RunSoFar}
use Rattle.enabled_runs.specs.Listing.{each_below, in_front, block, listing, all_sent, extended_by, after_run, runs_from}
use Rattle.enabled_runs.specs.Offices.{engine_call, heard_by, before_events, commits_in_order}
use Rattle.office_runs.specs.Runs.{new_run, trial_of}
use Rattle.office_runs.specs.declared.OfficeRun.{OfficeRun}
use Rattle.office_runs.specs.listing.Lines.{event_text, commit_by_text, joined_by_blanks, first_five}
use Rattle.short_runs.specs.Lister.{kept_line, event_lines, lines_after}
use Rattle.short_runs.specs.Sheet.{run_line_with, sheet}
use Rattle.short_runs.proofs.Turns.{proposal_lines, delivery_lines}
use Rattle.short_runs.proofs.Piles.{Pile}
use Rattle.short_runs.proofs.Trials.{KeepsRun, TrialAgrees, keeps_new, proposal_agrees, delivery_agrees}

-- ---- texts of lists

module _ {A : Type 0} where
  each_append : (f : A → List ℕ) (xs ys : List A) → each f (xs ++ ys) ≡ each f xs ++ each f ys
  unfolding each
  each_append f [] ys = refl
  each_append f (x ∷ xs) ys = ap (λ (l : List ℕ). f x ++ l) (each_append f xs ys) ∙ sym (append_assoc (f x) (each f xs) (each f ys))

  each_up_to : (f : A → List ℕ) (n : ℕ) (g : ℕ → List A) → each f (each_below n g) ≡ each_below n (λ k. each f (g k))
  unfolding each each_below
  each_up_to f zero g = refl
  each_up_to f (suc n) g = each_append f (each_below n g) (g n) ∙ ap (λ (l : List ℕ). l ++ each f (g n)) (each_up_to f n g)

  each_same : (f g : A → List ℕ) → ((x : A) → f x ≡ g x) → (xs : List A) → each f xs ≡ each g xs
  unfolding each
  each_same f g same [] = refl
  each_same f g same (x ∷ xs) = ap (λ (l : List ℕ). l ++ each f xs) (same x) ∙ ap (λ (l : List ℕ). g x ++ l) (each_same f g same xs)

up_to_same : (n : ℕ) (f g : ℕ → List ℕ) → ((k : ℕ) → k < n → f k ≡ g k) → each_below n f ≡ each_below n g
unfolding each_below
up_to_same zero f g same = refl
up_to_same (suc n) f g same =
    ap (λ (l : List ℕ). l ++ f n) (up_to_same n f g (λ k h. same k (omega (arith, h)))) ∙ ap (λ (l : List ℕ). each_below n g ++ l) (same n (omega arith))

each_in_front : (f : List RunEvent → List ℕ) (e : RunEvent) (runs : List (List RunEvent)) → each f (in_front e runs) ≡ each (λ x. f (e ∷ x)) runs
unfolding each
each_in_front f e [] = refl
each_in_front f e (x ∷ runs) = ap (λ (l : List ℕ). f (e ∷ x) ++ l) (each_in_front f e runs)

-- ---- the line of a run

first_five_lem : {A : Type 0} {xs : List A} {count room : ℕ} {kept : List A} → length kept ≤ 5 → Pile xs count room kept → first_five xs count ≡ kept
first_five_lem {xs = xs} {count} {room} {kept} few p =
    let all : min count 5 ≡ count = omega (arith, few, p.counted) in
    ap (λ (n : ℕ). take n xs) all ∙ p.first

-- the line of a kept run is that of the run so far: its events and its commits
line_kept : {run : OfficeRun} {w : RunSoFar Shard} {es : List RunEvent} → length es ≤ 5 → KeepsRun run w es → kept_line run ≡ run_line_with es (commits_in_order w.past)
unfolding kept_line run_line_with
line_kept {run} {w} {es} short s =
    ap
    (λ (l : List RunEvent). joined_by_blanks event_text l ++ (ascii "," ++ (joined_by_blanks commit_by_text (first_five run.commits.places run.commits.count) ++ ascii "\r\n")))
    (first_five_lem short s.kept.events_kept)
    ∙ ap (λ (l : List CommitBy). joined_by_blanks event_text es ++ (ascii "," ++ (joined_by_blanks commit_by_text l ++ ascii "\r\n")))
    (first_five_lem (omega (arith, short, s.few_commits)) s.kept.commits_kept)

-- ---- the lines of the runs that extend a run

-- the run so far, after more events
abbrev after : RunSoFar Shard → List RunEvent → RunSoFar Shard
after w more = after_run (all_sent engine_call heard_by) (extended_by engine_call heard_by) w more

-- the line of the run with more events
abbrev line_after : RunSoFar Shard → List RunEvent → List RunEvent → List ℕ
line_after w es more = run_line_with (es ++ more) (commits_in_order (after w more).past)

-- so many events left are written as they are listed
abbrev Written : ℕ → Type 0
Written left =
    (run : OfficeRun) (w : RunSoFar Shard) (es : List RunEvent) → left + length es ≤ 5 → KeepsRun run w es
    → lines_after left run ≡ each (line_after w es) (runs_from engine_call heard_by left w)

-- what follows an event
abbrev block_of : ℕ → RunEvent → Option (RunSoFar Shard) → List (List RunEvent)
block_of left e o = block (all_sent engine_call heard_by) (extended_by engine_call heard_by) (runs_from engine_call heard_by left) e o

-- after an event that may come next, it is the run with that event
with_next : (w : RunSoFar Shard) (e : RunEvent) (v : RunSoFar Shard) → extended_by engine_call heard_by w e ≡ some v → (more : List RunEvent) → after w (e ∷ more) ≡ after v more
unfolding after_run
with_next w e v found more = ap (λ (o : Option (RunSoFar Shard)). after (get_or o w) more) found

-- an event's lines: its run, followed at once by those that extend it, or nothing
lines_of_event : (left : ℕ) → Written left → (w : RunSoFar Shard) (es : List RunEvent) (e : RunEvent) (t : std.Option OfficeRun) (o : Option (RunSoFar Shard)) → suc left + length es ≤ 5
    → extended_by engine_call heard_by w e ≡ o → TrialAgrees t o (es ++ (e ∷ []))
    → event_lines (lines_after left) t ≡ each (line_after w es) (block_of left e o)
unfolding event_lines block each after_run
lines_of_event left written w es e None none short found a = refl
lines_of_event left written w es e None (some v) short found a = absurd a
lines_of_event left written w es e (Some run) none short found a = absurd a
lines_of_event left written w es e (Some run) (some v) short found s =
    let one_more : length (es ++ (e ∷ [])) ≡ length es + 1 = length-append es (e ∷ []) in
    ap (λ (l : List ℕ). l ++ lines_after left run)
    (line_kept (omega (arith, one_more, short)) s ∙ sym (ap (λ (x : RunSoFar Shard). run_line_with (es ++ (e ∷ [])) (commits_in_order x.past)) (next [])))
    ∙ ap (λ (l : List ℕ). line_after w es (e ∷ []) ++ l)
    (written run v (es ++ (e ∷ [])) (omega (arith, one_more, short)) s
    ∙ each_same (line_after v (es ++ (e ∷ []))) (λ x. line_after w es (e ∷ x)) same (runs_from engine_call heard_by left v)
    ∙ sym (each_in_front (line_after w es) e (runs_from engine_call heard_by left v)))
  where
    next : (x : List RunEvent) → after w (e ∷ x) ≡ after v x
    next x = with_next w e v found x

    same : (x : List RunEvent) → line_after v (es ++ (e ∷ [])) x ≡ line_after w es (e ∷ x)
    same x =
        ap (λ (l : List RunEvent). run_line_with l (commits_in_order (after v x).past)) (append_assoc es (e ∷ []) x)
        ∙ ap (λ (y : RunSoFar Shard). run_line_with (es ++ (e ∷ x)) (commits_in_order y.past)) (sym (next x))

-- the runs that go on with a proposal of the member, and those that go on with a delivery to it
abbrev proposal_runs : ℕ → RunSoFar Shard → ℕ → List (List RunEvent)
proposal_runs left w member = block_of left (Proposes member) (extended_by engine_call heard_by w (Proposes member))

abbrev delivery_runs : ℕ → RunSoFar Shard → ℕ → ℕ → List (List RunEvent)
delivery_runs left w member place = block_of left (Delivers member place) (extended_by engine_call heard_by w (Delivers member place))

proposals_written : (left : ℕ) → Written left → (run : OfficeRun) (w : RunSoFar Shard) (es : List RunEvent) → suc left + length es ≤ 5 → KeepsRun run w es
    → each_below 3 (proposal_lines left run) ≡ each (line_after w es) (each_below 3 (proposal_runs left w))
proposals_written left written run w es short s =
    up_to_same 3 (proposal_lines left run) (λ member. each (line_after w es) (proposal_runs left w member))
    (λ member below. lines_of_event left written w es (Proposes member) (trial_of run (Proposes member)) (extended_by engine_call heard_by w (Proposes member)) short refl
    (proposal_agrees member below (omega (arith, short)) s))
    ∙ sym (each_up_to (line_after w es) 3 (proposal_runs left w))

deliveries_written : (left : ℕ) → Written left → (run : OfficeRun) (w : RunSoFar Shard) (es : List RunEvent) (member : ℕ) → member < 3 → suc left + length es ≤ 5
    → KeepsRun run w es
    → each_below run.sent.count (delivery_lines left run member) ≡ each (line_after w es) (each_below (all_sent engine_call heard_by w) (delivery_runs left w member))
deliveries_written left written run w es member below short s =
    up_to_same run.sent.count (delivery_lines left run member) (λ place. each (line_after w es) (delivery_runs left w member place))
    (λ place stands. lines_of_event left written w es (Delivers member place) (trial_of run (Delivers member place)) (extended_by engine_call heard_by w (Delivers member place)) short refl
    (delivery_agrees member place below (omega (arith, short)) stands s))
    ∙ ap (λ (n : ℕ). each_below n (λ place. each (line_after w es) (delivery_runs left w member place))) s.kept.sent_kept.counted
    ∙ sym (each_up_to (line_after w es) (all_sent engine_call heard_by w) (delivery_runs left w member))

-- with an event more
one_event_more : (left : ℕ) → Written left → Written (suc left)
unfolding lines_after listing
one_event_more left written run w es short s =
    ap (λ (l : List ℕ). l ++ each_below 3 (λ member. each_below run.sent.count (delivery_lines left run member))) (proposals_written left written run w es short s)
    ∙ ap (λ (l : List ℕ). each (line_after w es) (each_below 3 (proposal_runs left w)) ++ l)
    (up_to_same 3 (λ member. each_below run.sent.count (delivery_lines left run member))
    (λ member. each (line_after w es) (each_below (all_sent engine_call heard_by w) (delivery_runs left w member)))
    (λ member below. deliveries_written left written run w es member below short s)
    ∙ sym (each_up_to (line_after w es) 3 (λ member. each_below (all_sent engine_call heard_by w) (delivery_runs left w member))))
    ∙ sym (each_append (line_after w es) (each_below 3 (proposal_runs left w)) (each_below 3 (λ member. each_below (all_sent engine_call heard_by w) (delivery_runs left w member))))

-- by induction over the events left
pub lines_listed : (left : ℕ) → Written left
unfolding lines_after listing each
lines_listed zero run w es short s = refl
lines_listed (suc left) run w es short s = one_event_more left (lines_listed left) run w es short s

-- What the lister puts is the sheet.
pub sheet_is_listing : ascii "events,commits\r\n" ++ lines_after 5 new_run ≡ sheet
unfolding sheet
sheet_is_listing = ap (λ (l : List ℕ). ascii "events,commits\r\n" ++ l) (lines_listed 5 new_run before_events [] (omega arith) keeps_new)

-- the header and the lines, put one after another
pub sheet_put : (p : Output) {q r : Output} → q ≡ put (ascii "events,commits\r\n") p → r ≡ put (lines_after 5 new_run) q → r ≡ put sheet p
sheet_put p a b = put_then (ascii "events,commits\r\n") (lines_after 5 new_run) p a b ∙ ap (λ (l : List ℕ). put l p) sheet_is_listing
