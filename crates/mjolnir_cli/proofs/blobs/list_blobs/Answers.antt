-- What the frames say at each exit of the loop, and how one blob more keeps what is listed.
use Rattle.std.proofs.Common.{arith, ◌≡◌, ◌+◌, ◌-◌, ◌≤◌, ℕ, Option, Some, ap, ◌∙◌, length, subst, false}
use Rattle.std.specs.Option.{option_map}
use Rattle.host_port.specs.Told.{Told}
use Rattle.host_port.proofs.HostFrames.{reads_then}
use Rattle.mjolnir_cli.specs.Failures.{cause_of, of_pbf}
use Rattle.mjolnir_cli.specs.Listing.{ReadCount}
use Rattle.mjolnir_cli.proofs.Causes.{met_frame, counted_frame, if_read_frame, closed_before}
use Rattle.pbf_blobs.specs.Answers.{is_read}
use Rattle.mjolnir_cli.proofs.SoFar.{listed_one, lists_all, stops}
use Rattle.mjolnir_cli.proofs.blobs.list_blobs.Goals as goal

-- the place after a move, from the place before it
moved_place : (at n to : ℕ) (old new : Option ℕ) → new ≡ option_map (λ place. place + n) old → old ≡ Some at → at + n ≡ to → new ≡ Some to
moved_place at n to old new is was sum = is ∙ ap (option_map (λ place. place + n)) was ∙ ap Some sum

pub returns-in-Ok-None-clause-listed : goal.returns-in-Ok-None-clause-listed
returns-in-Ok-None-clause-listed g c = λ bytes input place.
    let here = rw c.in-Ok-None.field-0-is at c.in-Ok-None.ensures in
    let ends = here.bytes bytes (c.loop-text.invariant.frame.input ∙ input) (c.loop-text.invariant.place place) in
    lists_all bytes c.loop-text.at _ (c.loop-text.invariant.listed bytes input place) ends

pub returns-in-Ok-None-clause-whole : goal.returns-in-Ok-None-clause-whole
returns-in-Ok-None-clause-whole g c = λ bytes input place.
    let here = rw c.in-Ok-None.field-0-is at c.in-Ok-None.ensures in
    let was = c.loop-text.invariant.place place in
    let past : length bytes ≤ c.loop-text.at = here.within bytes (c.loop-text.invariant.frame.input ∙ input) was in
    let inside : c.loop-text.at ≤ length bytes = c.loop-text.invariant.inside bytes input place in
    moved_place c.loop-text.at 0 (length bytes) _ _ (ap (λ (t : Told). t.place) here.moved) was (omega arith)

pub loop-text-preserved : goal.loop-text-preserved
loop-text-preserved g c =
    let here = rw c.in-Ok-Some.field-0-is at c.in-Ok-Some.ensures in
    let before = c.loop-text.invariant in
    let ahead : c.loop-text.at + 4 ≤ c.in-Ok-Some.blob.end = here.ahead.0 in
    record {
      low = here.ahead.1;
      place = λ place. moved_place c.loop-text.at (c.in-Ok-Some.blob.end - c.loop-text.at) c.in-Ok-Some.blob.end _ _ (ap (λ (t : Told). t.place) here.moved) (before.place place) (omega arith);
      inside = λ bytes input place. here.within bytes (before.frame.input ∙ input) (before.place place);
      listed = λ bytes input place. listed_one bytes c.loop-text.at _ _ c.in-Ok-Some.blob (before.listed bytes input place) (here.bytes bytes (before.frame.input ∙ input) (before.place place)) c.in_ok-push_line-in-Ok-Some.ensures;
      frame = reads_then _ _ _ before.frame here.frame;
      no_fault = here.faults ∙ before.no_fault;
    }

pub returns-in-Err-clause-refused : goal.returns-in-Err-clause-refused
returns-in-Err-clause-refused g c = λ bytes input place.
    let before = c.loop-text.invariant in
    let answers = c.in-Err.ensures.bytes bytes (before.frame.input ∙ input) (before.place place) in
    rw c.from.ensures (stops bytes c.loop-text.at _ c.in-Err.fault (before.listed bytes input place) answers)

pub returns-in-Err-clause-met : goal.returns-in-Err-clause-met
returns-in-Err-clause-met g c = rw c.from.ensures (met_frame c.in-Err.fault)

pub returns-in-Err-clause-faults : goal.returns-in-Err-clause-faults
returns-in-Err-clause-faults g c =
    let state = g.H.Host.state in
    rw c.from.ensures (subst (λ (before : ℕ). ReadCount before (state c.next_blob.new.host).read_faults (cause_of (of_pbf c.in-Err.fault))) c.loop-text.invariant.no_fault
    (counted_frame (state c.loop-text.host).read_faults (state c.next_blob.new.host).read_faults c.in-Err.fault c.in-Err.ensures.faults))

pub returns-in-Err-clause-cause : goal.returns-in-Err-clause-cause
returns-in-Err-clause-cause g c = λ willing.
    let start = (g.H.Host.state c.args.host.now).told.is_open in
    let before = (g.H.Host.state c.loop-text.host).told.is_open in
    rw c.from.ensures (if_read_frame (start ≡ Some false) c.in-Err.fault
    (closed_before (is_read c.in-Err.fault) start before c.loop-text.invariant.frame.is_open (c.in-Err.ensures.cause (c.loop-text.invariant.frame.willing willing))))
