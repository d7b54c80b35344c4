-- What the top call promised before its clauses were records, clause by clause, out of what it promises now. No proof
-- of the program cites this file: it shows that nothing was lost. Two of them say what is promised now: the paths that
-- are put are those of the answer, each in the command's folder, in place of one path (`old_paths`); and `build` puts the
-- files of the tiles, whose walks are those of the roads, in place of a list of the roads (`old_lists`).
use Rattle.std.proofs.Common.{◌≡◌, ◌≢◌, ◌⊎◌, inl, inr, ℕ, List, [], ◌++◌, length, Option, Some, None, refl, sym, ap, subst, ◌∙◌}
use Rattle.std.specs.Prelude.{IsSome}
use Rattle.std.specs.Option.{option_map}
use Rattle.command_words.specs.declared.command.BuildOptions.{BuildOptions}
use Rattle.host_port.specs.Faults.{Rose}
use Rattle.host_port.specs.HostState.{HostState}
use Rattle.mjolnir_cli.specs.declared.answer.Answer.{Answer}
use Rattle.mjolnir_cli.specs.declared.failure.Failure.{Failure}
use Rattle.mjolnir_cli.specs.declared.failure.Failure.TheVariants.{Words, Read, Put, OutOfMemory}
use Rattle.mjolnir_cli.specs.declared.words.Command.{Command}
use Rattle.mjolnir_cli.specs.declared.words.Command.TheVariants.{Blobs, Build}
use Rattle.mjolnir_cli.specs.Commands.{ArePathsOf, IsAnswer, IsRefused, Asks, HasItsInput}
use Rattle.mjolnir_cli.specs.Commands.BuildCommand.{RoutesRoads}
use Rattle.mjolnir_cli.specs.Failures.{Cause, OfBytes, OfLimits, status_for, status_of, line_of}
use Rattle.mjolnir_cli.specs.Puts.{PutsAll, BeginsWith, IsFront, Unput, paths}
use Rattle.mjolnir_cli.specs.Said.{Adds}
use Rattle.mjolnir_cli.specs.Ends.{SaysItsLine, HasAnswer, IsRefusedFor, EndsBy, HasCauses, IsComplete, KeepsHeadline, SameCounts}
use Rattle.mjolnir_cli.proofs.OneAnswer.{of_asked}

some_is_some : {A : Type 0} (o : Option A) (a : A) → o ≡ Some a → IsSome o
some_is_some o a is = rw is refl

-- the answer of the command that is asked for
answers_asked : (asked : Option Command) (before : HostState) (answer : Answer) → HasAnswer asked before answer → (command : Command) (bytes : List ℕ) → Asks asked before.told command bytes → IsAnswer command bytes answer
answers_asked asked before answer has command bytes asks =
    of_asked (λ c bs. IsAnswer c bs answer) asked before.told has.command command bytes has.command_is has.is asks

some_same : (a b : Command) → ◌≡◌ {A = Option Command} (Some a) (Some b) → a ≡ b
some_same a b e = cc

-- ---- 0

old_done : (status : ℕ) (asked : Option Command) (before after : HostState) → EndsBy status asked before after → status ≡ 0
    → (answer : Answer) × PutsAll answer.files before.told after.told × Adds answer.text before.told after.told × ((command : Command) (bytes : List ℕ) → Asks asked before.told command bytes → IsAnswer command bytes answer)
old_done status asked before after ends e =
    let d = ends.done e in
    (d.answer, d.puts, d.says, answers_asked asked before d.answer d.answers)

old_whole : (status : ℕ) (asked : Option Command) (before after : HostState) → EndsBy status asked before after → status ≡ 0
    → (command : Command) (bytes : List ℕ) → Asks asked before.told command bytes → after.told.place ≡ Some (length bytes)
old_whole status asked before after ends e command bytes asks =
    of_asked (λ c bs. after.told.place ≡ Some (length bs)) asked before.told (ends.done e).answers.command command bytes (ends.done e).answers.command_is (ends.done e).whole asks

old_asked : (status : ℕ) (asked : Option Command) (before after : HostState) → EndsBy status asked before after → status ≡ 0 → IsSome asked
old_asked status asked before after ends e = some_is_some asked (ends.done e).answers.command (ends.done e).answers.command_is

old_paths : (status : ℕ) (asked : Option Command) (before after : HostState) → EndsBy status asked before after → status ≡ 0
    → (command : Command) → asked ≡ Some command → (these : List (List ℕ)) × (after.told.puts ≡ option_map (λ puts. puts ++ these) before.told.puts) × ArePathsOf command these
old_paths status asked before after ends e command is =
    let d = ends.done e in
    (paths d.answer.files, d.puts.puts, subst (λ (c : Command). ArePathsOf c (paths d.answer.files)) (some_same d.answers.command command (sym d.answers.command_is ∙ is)) d.answers.paths_are)

old_lists : (status : ℕ) (asked : Option Command) (before after : HostState) → KeepsHeadline status asked before after → status ≡ 0
    → (options : BuildOptions) (bytes : List ℕ) → Asks asked before.told (Build options) bytes → RoutesRoads options.output options.modes bytes before.told after.told
old_lists status asked before after headline e options bytes asks = headline e (Build options) bytes asks

-- ---- 2

old_words : (status : ℕ) (asked : Option Command) (before after : HostState) → EndsBy status asked before after → status ≡ 2 → asked ≡ None
old_words status asked before after ends e = (ends.refused_words e).nothing

old_words_only : (status : ℕ) (asked : Option Command) (before after : HostState) → HasCauses status asked before after → asked ≡ None → (status ≡ 2) ⊎ (status ≡ 7)
old_words_only status asked before after causes none = causes.words none

old_words_line : (status : ℕ) (asked : Option Command) (before after : HostState) → EndsBy status asked before after → status ≡ 2 → SaysItsLine Words before after
old_words_line status asked before after ends e = (ends.refused_words e).line

-- ---- 3

old_read : (status : ℕ) (asked : Option Command) (before after : HostState) → EndsBy status asked before after → status ≡ 3 → Rose before.read_faults after.read_faults
old_read status asked before after ends e = (ends.unread e).counted

old_read_only : (status : ℕ) (asked : Option Command) (before after : HostState) → HasCauses status asked before after → status ≢ 3 → status ≢ 7 → after.read_faults ≡ before.read_faults
old_read_only status asked before after causes three seven = causes.reading three seven

old_read_line : (status : ℕ) (asked : Option Command) (before after : HostState) → EndsBy status asked before after → status ≡ 3 → SaysItsLine Read before after
old_read_line status asked before after ends e = (ends.unread e).line

-- ---- 4

old_put : (status : ℕ) (asked : Option Command) (before after : HostState) → EndsBy status asked before after → status ≡ 4 → Rose before.put_faults after.put_faults
old_put status asked before after ends e = (ends.unput e).counted

old_put_only : (status : ℕ) (asked : Option Command) (before after : HostState) → HasCauses status asked before after → status ≢ 4 → status ≢ 7 → after.put_faults ≡ before.put_faults
old_put_only status asked before after causes four seven = causes.putting four seven

old_put_line : (status : ℕ) (asked : Option Command) (before after : HostState) → EndsBy status asked before after → status ≡ 4 → SaysItsLine Put before after
old_put_line status asked before after ends e = (ends.unput e).line

old_put_front : (status : ℕ) (asked : Option Command) (before after : HostState) → EndsBy status asked before after → status ≡ 4
    → (front : List (List ℕ × List ℕ)) × PutsAll front before.told after.told × ((command : Command) (bytes : List ℕ) → Asks asked before.told command bytes → (answer : Answer) × IsAnswer command bytes answer × IsFront front answer.files)
old_put_front status asked before after ends e =
    let u = ends.unput e in
    (u.front, u.puts, λ command bytes asks. (u.answer, answers_asked asked before u.answer u.answers command bytes asks, u.is_front))

-- ---- 5 and 6

refused_for : (cause : Cause) (asked : Option Command) (before after : HostState) → IsRefusedFor cause asked before after
    → (failure : Failure) × (status_of failure ≡ status_for cause) × SaysItsLine failure before after × ((command : Command) (bytes : List ℕ) → Asks asked before.told command bytes → IsRefused command bytes failure)
refused_for cause asked before after r =
    (r.failure, ap status_for r.cause_is, r.line, λ command bytes asks. of_asked (λ c bs. IsRefused c bs r.failure) asked before.told r.command command bytes r.command_is r.is asks)

old_refused : (status : ℕ) (asked : Option Command) (before after : HostState) → EndsBy status asked before after → (status ≡ 5) ⊎ (status ≡ 6)
    → (failure : Failure) × (status_of failure ≡ status) × SaysItsLine failure before after × ((command : Command) (bytes : List ℕ) → Asks asked before.told command bytes → IsRefused command bytes failure)
old_refused status asked before after ends (inl e) =
    let r = refused_for OfBytes asked before after (ends.refused e) in
    (r.0, r.1 ∙ sym e, r.2, r.3)
old_refused status asked before after ends (inr e) =
    let r = refused_for OfLimits asked before after (ends.past_limit e) in
    (r.0, r.1 ∙ sym e, r.2, r.3)

old_refused_only : (status : ℕ) (asked : Option Command) (before after : HostState) → HasCauses status asked before after → (command : Command) (bytes : List ℕ) (failure : Failure) → Asks asked before.told command bytes
    → IsRefused command bytes failure → (Rose before.read_faults after.read_faults → ⊥) → (status ≡ status_of failure) ⊎ (status ≡ 7)
old_refused_only status asked before after causes command bytes failure asks refused unread = causes.refusing command bytes failure asks refused unread

-- ---- 7

old_memory : (status : ℕ) (asked : Option Command) (before after : HostState) → EndsBy status asked before after → status ≡ 7 → Adds (line_of OutOfMemory) before.told after.told ⊎ (after.told.said ≡ before.told.said)
old_memory status asked before after ends e = (ends.no_memory e).line

front_asked : (asked : Option Command) (before : HostState) (front : List (List ℕ × List ℕ)) → (front ≡ []) ⊎ ((answer : Answer) × HasAnswer asked before answer × BeginsWith front answer.files)
    → (front ≡ []) ⊎ ((command : Command) (bytes : List ℕ) → Asks asked before.told command bytes → (answer : Answer) × IsAnswer command bytes answer × BeginsWith front answer.files)
front_asked asked before front (inl none) = inl none
front_asked asked before front (inr has) = inr (λ command bytes asks. (has.0, answers_asked asked before has.0 has.1 command bytes asks, has.2))

old_memory_front : (status : ℕ) (asked : Option Command) (before after : HostState) → EndsBy status asked before after → status ≡ 7
    → (front : List (List ℕ × List ℕ)) × PutsAll front before.told after.told × ((front ≡ []) ⊎ ((command : Command) (bytes : List ℕ) → Asks asked before.told command bytes → (answer : Answer) × IsAnswer command bytes answer × BeginsWith front answer.files))
old_memory_front status asked before after ends e =
    let m = ends.no_memory e in
    (m.front, m.puts, front_asked asked before m.front m.is_front)

-- ---- 9

old_say : (status : ℕ) (asked : Option Command) (before after : HostState) → EndsBy status asked before after → status ≡ 9 → Rose before.say_faults after.say_faults
old_say status asked before after ends e = (ends.unsaid e).counted

old_say_only : (status : ℕ) (asked : Option Command) (before after : HostState) → HasCauses status asked before after → status ≡ 0 → after.say_faults ≡ before.say_faults
old_say_only status asked before after causes e = causes.saying e

old_say_lost : (status : ℕ) (asked : Option Command) (before after : HostState) → EndsBy status asked before after → status ≡ 9 → after.told.said ≡ before.told.said
old_say_lost status asked before after ends e = (ends.unsaid e).lost

old_say_done : (status : ℕ) (asked : Option Command) (before after : HostState) → EndsBy status asked before after → status ≡ 9
    → (answer : Answer) × PutsAll answer.files before.told after.told × (answer.text ≢ []) × ((command : Command) (bytes : List ℕ) → Asks asked before.told command bytes → IsAnswer command bytes answer)
old_say_done status asked before after ends e =
    let u = ends.unsaid e in
    (u.answer, u.puts, u.has_text, answers_asked asked before u.answer u.answers)

-- ---- no file is put

old_unput : (status : ℕ) (asked : Option Command) (before after : HostState) → EndsBy status asked before after → (status ≡ 2) ⊎ (status ≡ 3) ⊎ (status ≡ 5) ⊎ (status ≡ 6) → Unput before.told after.told
old_unput status asked before after ends (inl e) = (ends.refused_words e).unput
old_unput status asked before after ends (inr (inl e)) = (ends.unread e).unput
old_unput status asked before after ends (inr (inr (inl e))) = (ends.refused e).unput
old_unput status asked before after ends (inr (inr (inr e))) = (ends.past_limit e).unput

old_blobs_unput : (status : ℕ) (asked : Option Command) (before after : HostState) → HasCauses status asked before after → (path : List ℕ) → asked ≡ Some (Blobs path) → Unput before.told after.told × (after.put_faults ≡ before.put_faults)
old_blobs_unput status asked before after causes path is = causes.fileless (Blobs path) is tt

-- ---- completeness, and the willing host

old_complete : (status : ℕ) (asked : Option Command) (before after : HostState) → IsComplete status asked before after → (command : Command) (bytes : List ℕ) (answer : Answer) → Asks asked before.told command bytes → IsAnswer command bytes answer
    → (Rose before.read_faults after.read_faults → ⊥) → (Rose before.put_faults after.put_faults → ⊥) → (Rose before.say_faults after.say_faults → ⊥) → (status ≡ 0) ⊎ (status ≡ 7)
old_complete status asked before after complete command bytes answer asks is unread unput unsaid =
    complete command bytes answer asks is (record { reads = unread; puts = unput; says = unsaid })

old_willing_reads : (asked : Option Command) (before after : HostState) → (before.willing → HasItsInput asked before.told → SameCounts before after) → before.willing → HasItsInput asked before.told → after.read_faults ≡ before.read_faults
old_willing_reads asked before after counts willing there = (counts willing there).reads

old_willing_puts : (asked : Option Command) (before after : HostState) → (before.willing → HasItsInput asked before.told → SameCounts before after) → before.willing → HasItsInput asked before.told → after.put_faults ≡ before.put_faults
old_willing_puts asked before after counts willing there = (counts willing there).puts

old_willing_says : (asked : Option Command) (before after : HostState) → (before.willing → HasItsInput asked before.told → SameCounts before after) → before.willing → HasItsInput asked before.told → after.say_faults ≡ before.say_faults
old_willing_says asked before after counts willing there = (counts willing there).says
