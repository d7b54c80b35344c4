-- How a call ends, by what the calls that it makes promise.
use Rattle.std.proofs.Common.{◌≡◌, ◌≢◌, ◌⊎◌, inl, inr, ℕ, List, [], ◌++◌, length, Option, Some, None, refl, sym, ap, subst, ◌∙◌, arith}
use Rattle.std.specs.Prelude.{IsSome}
use Rattle.std.specs.Option.{option_map}
use Rattle.host_port.specs.Told.{Told, named}
use Rattle.host_port.specs.Faults.{Rose}
use Rattle.host_port.specs.HostState.{HostState, OnlyOpens}
use Rattle.build_flow.specs.BuildLaws.{BuiltWalks}
use Rattle.mjolnir_cli.specs.declared.answer.Answer.{Answer}
use Rattle.mjolnir_cli.specs.declared.failure.Failure.{Failure}
use Rattle.mjolnir_cli.specs.declared.failure.Failure.TheVariants.{Words, Put, OutOfMemory}
use Rattle.mjolnir_cli.specs.declared.words.Command.{Command}
use Rattle.mjolnir_cli.specs.declared.words.Command.TheVariants.{Blobs, Build}
use Rattle.mjolnir_cli.specs.Commands.{input_of, ArePathsOf, IsAnswer, IsRefused}
use Rattle.mjolnir_cli.specs.Failures.{Cause, OfWords, OfReading, OfPutting, OfBytes, OfLimits, OfMemory, cause_of, status_for, status_of, line_of}
use Rattle.mjolnir_cli.specs.Puts.{PutsAll, BeginsWith, IsFront, Unput, paths}
use Rattle.mjolnir_cli.specs.Said.{Adds}
use Rattle.mjolnir_cli.specs.Listing.{IfOfInput, IfOfReading, IsMet, ReadCount}
use Rattle.mjolnir_cli.specs.Ends.{SaysItsLine, HasAnswer, IsRefusedWords, IsUnread, IsRefusedFor, HasNoMemory, EndsBy, CountsNone, SameCounts, HasCauses, IsComplete, KeepsHeadline, IsEnd}
use Rattle.mjolnir_cli.proofs.Stored.{puts_after, puts_of_none}
use Rattle.mjolnir_cli.proofs.Ends.{routes_roads, no_files}
use Rattle.mjolnir_cli.proofs.OneAnswer.{EndsOneWay, answered, complete, refused_so, says_from, is_read}

some_none : {A : Type 0} (a : A) → ◌≡◌ {A = Option A} (Some a) None → ⊥
some_none a e = cc

-- ---- where the command has an answer

-- what is left when an answer was put and said
pub record Delivers (answer : Answer) (status : ℕ) (before after : HostState) : Type 0 where
  pub statuses : (status ≡ 0) ⊎ (status ≡ 4) ⊎ (status ≡ 7) ⊎ (status ≡ 9)
  pub done : status ≡ 0 → PutsAll answer.files before.told after.told
  pub said : status ≡ 0 → Adds answer.text before.told after.told
  pub put : status ≡ 4 → Rose before.put_faults after.put_faults
  pub put_only : status ≢ 4 → status ≢ 7 → after.put_faults ≡ before.put_faults
  pub put_line : status ≡ 4 → SaysItsLine Put before after
  pub put_front : status ≡ 4 → (front : List (List ℕ × List ℕ)) × IsFront front answer.files × PutsAll front before.told after.told
  pub memory : status ≡ 7 → Adds (line_of OutOfMemory) before.told after.told ⊎ (after.told.said ≡ before.told.said)
  pub memory_front : status ≡ 7 → (front : List (List ℕ × List ℕ)) × BeginsWith front answer.files × PutsAll front before.told after.told
  pub say : status ≡ 9 → Rose before.say_faults after.say_faults
  pub say_only : status ≡ 0 → after.say_faults ≡ before.say_faults
  pub say_lost : status ≡ 9 → after.told.said ≡ before.told.said
  pub say_done : status ≡ 9 → PutsAll answer.files before.told after.told
  pub say_text : status ≡ 9 → answer.text ≢ []
  pub place : after.told.place ≡ before.told.place
  pub reads : after.read_faults ≡ before.read_faults
  pub none : answer.files ≡ [] → Unput before.told after.told × (after.put_faults ≡ before.put_faults)

-- a command that was run to its answer: it read, and did nothing else
pub record RanTo (answer : Answer) (mine : Command) (before mid : HostState) : Type 0 where
  pub is_answer : (bytes : List ℕ) → named (input_of mine) before.told ≡ Some bytes → IsAnswer mine bytes answer
  pub paths_are : ArePathsOf mine (paths answer.files)
  pub whole : (bytes : List ℕ) → named (input_of mine) before.told ≡ Some bytes → mid.told.place ≡ Some (length bytes)
  pub others : OnlyOpens before mid
  pub reads : mid.read_faults ≡ before.read_faults

not_delivered : (status other : ℕ) → (0 ≡ other → ⊥) → (4 ≡ other → ⊥) → (7 ≡ other → ⊥) → (9 ≡ other → ⊥) → (status ≡ 0) ⊎ (status ≡ 4) ⊎ (status ≡ 7) ⊎ (status ≡ 9) → status ≡ other → ⊥
not_delivered status other at_zero four seven nine (inl is) e = at_zero (sym is ∙ e)
not_delivered status other at_zero four seven nine (inr (inl is)) e = four (sym is ∙ e)
not_delivered status other at_zero four seven nine (inr (inr (inl is))) e = seven (sym is ∙ e)
not_delivered status other at_zero four seven nine (inr (inr (inr is))) e = nine (sym is ∙ e)

-- what was said or not said after the reading was so from the start
memory_from : (text : List ℕ) (before mid after : HostState) → mid.told.said ≡ before.told.said → Adds text mid.told after.told ⊎ (after.told.said ≡ mid.told.said) → Adds text before.told after.told ⊎ (after.told.said ≡ before.told.said)
memory_from text before mid after same (inl adds) = inl (adds ∙ ap (option_map (λ said. said ++ text)) same)
memory_from text before mid after same (inr lost) = inr (lost ∙ same)

told_from : (failure : Failure) (before mid after : HostState) → mid.told.said ≡ before.told.said → mid.say_faults ≡ before.say_faults → SaysItsLine failure mid after → SaysItsLine failure before after
told_from failure before mid after same counted told = says_from (line_of failure) before.told mid.told after.told before.say_faults mid.say_faults after.say_faults same counted told

rose_from : (first before now : ℕ) → before ≡ first → Rose before now → Rose first now
rose_from first before now same rose = subst (λ (n : ℕ). Rose n now) same rose

unput_from : (before mid after : Told) → mid.files ≡ before.files → mid.puts ≡ before.puts → Unput mid after → Unput before after
unput_from before mid after files puts unput = record { files = unput.files ∙ files; puts = unput.puts ∙ puts }

pub ends_delivered : (asked : Option Command) (mine : Command) (answer : Answer) (status : ℕ) (before mid after : HostState) → asked ≡ Some mine → RanTo answer mine before mid → Delivers answer status mid after → EndsBy status asked before after
ends_delivered asked mine answer status before mid after is ran given =
    let has : HasAnswer asked before answer = record { command = mine; command_is = is; is = ran.is_answer; paths_are = ran.paths_are } in
    let put_from : (files : List (List ℕ × List ℕ)) → PutsAll files mid.told after.told → PutsAll files before.told after.told =
    λ files puts. puts_after files before.told mid.told after.told ran.others.files ran.others.puts puts in
    record {
      done = λ e. record {
        answer = answer;
        answers = has;
        puts = put_from answer.files (given.done e);
        says = given.said e ∙ ap (option_map (λ said. said ++ answer.text)) ran.others.said;
        whole = λ bytes found. given.place ∙ ran.whole bytes found;
      };
      refused_words = λ e. absurd (not_delivered status 2 (λ z. omega arith) (λ z. omega arith) (λ z. omega arith) (λ z. omega arith) given.statuses e);
      unread = λ e. absurd (not_delivered status 3 (λ z. omega arith) (λ z. omega arith) (λ z. omega arith) (λ z. omega arith) given.statuses e);
      unput = λ e. record {
        counted = rose_from before.put_faults mid.put_faults after.put_faults ran.others.put_faults (given.put e);
        answer = answer;
        answers = has;
        front = (given.put_front e).0;
        is_front = (given.put_front e).1;
        puts = put_from (given.put_front e).0 (given.put_front e).2;
        line = told_from Put before mid after ran.others.said ran.others.say_faults (given.put_line e);
      };
      refused = λ e. absurd (not_delivered status 5 (λ z. omega arith) (λ z. omega arith) (λ z. omega arith) (λ z. omega arith) given.statuses e);
      past_limit = λ e. absurd (not_delivered status 6 (λ z. omega arith) (λ z. omega arith) (λ z. omega arith) (λ z. omega arith) given.statuses e);
      no_memory = λ e. record {
        line = memory_from (line_of OutOfMemory) before mid after ran.others.said (given.memory e);
        front = (given.memory_front e).0;
        puts = put_from (given.memory_front e).0 (given.memory_front e).2;
        is_front = inr (answer, has, (given.memory_front e).1);
      };
      unsaid = λ e. record {
        counted = rose_from before.say_faults mid.say_faults after.say_faults ran.others.say_faults (given.say e);
        answer = answer;
        answers = has;
        puts = put_from answer.files (given.say_done e);
        has_text = given.say_text e;
        lost = given.say_lost e ∙ ran.others.said;
      };
    }

pub causes_delivered : EndsOneWay → (asked : Option Command) (mine : Command) (answer : Answer) (status : ℕ) (before mid after : HostState) → asked ≡ Some mine → RanTo answer mine before mid → Delivers answer status mid after → HasCauses status asked before after
causes_delivered way asked mine answer status before mid after is ran given = record {
  words = λ none. absurd (some_none mine (sym is ∙ none));
  reading = λ not_three not_seven. given.reads ∙ ran.reads;
  putting = λ not_four not_seven. given.put_only not_four not_seven ∙ ran.others.put_faults;
  fileless = λ command command_is none.
      let still = given.none (no_files asked mine command answer.files is command_is ran.paths_are none) in
      (unput_from before.told mid.told after.told ran.others.files ran.others.puts still.0, still.1 ∙ ran.others.put_faults);
  refusing = λ command bytes failure asks refused unread. absurd (answered way asked before.told mine command bytes answer failure is ran.is_answer asks refused);
  saying = λ e. given.say_only e ∙ ran.others.say_faults;
}

pub complete_delivered : (asked : Option Command) (mine : Command) (answer : Answer) (status : ℕ) (before mid after : HostState) → RanTo answer mine before mid → Delivers answer status mid after → CountsNone before after → (status ≡ 0) ⊎ (status ≡ 7)
complete_delivered asked mine answer status before mid after ran given none = by given.statuses
  where
    by : (status ≡ 0) ⊎ (status ≡ 4) ⊎ (status ≡ 7) ⊎ (status ≡ 9) → (status ≡ 0) ⊎ (status ≡ 7)
    by (inl e) = inl e
    by (inr (inl e)) = absurd (none.puts (rose_from before.put_faults mid.put_faults after.put_faults ran.others.put_faults (given.put e)))
    by (inr (inr (inl e))) = inr e
    by (inr (inr (inr e))) = absurd (none.says (rose_from before.say_faults mid.say_faults after.say_faults ran.others.say_faults (given.say e)))

pub headline_delivered : (asked : Option Command) (mine : Command) (answer : Answer) (status : ℕ) (before mid after : HostState) → BuiltWalks → asked ≡ Some mine → RanTo answer mine before mid → Delivers answer status mid after → KeepsHeadline status asked before after
headline_delivered asked mine answer status before mid after law is ran given e (Blobs path) bytes asks = tt
headline_delivered asked mine answer status before mid after law is ran given e (Build options) bytes asks =
    routes_roads asked mine options bytes answer before.told mid.told after.told law is ran.is_answer ran.others.files ran.others.puts (given.done e) asks

-- ---- where a failure's line is said

-- what is left when the line of a failure was said, or lost
pub record Fails (failure : Failure) (status : ℕ) (before after : HostState) : Type 0 where
  pub statuses : (status ≡ status_of failure) ⊎ (status ≡ 7)
  pub line : status ≢ 7 → SaysItsLine failure before after
  pub memory : status ≡ 7 → Adds (line_of OutOfMemory) before.told after.told ⊎ (after.told.said ≡ before.told.said)
  pub files : after.told.files ≡ before.told.files
  pub put_paths : after.told.puts ≡ before.told.puts
  pub reads : after.read_faults ≡ before.read_faults
  pub puts : after.put_faults ≡ before.put_faults

-- a command that was run to a failure: it read, and did nothing else
pub record RanInto (failure : Failure) (mine : Command) (before mid : HostState) : Type 0 where
  pub refused : (bytes : List ℕ) → named (input_of mine) before.told ≡ Some bytes → IfOfInput (cause_of failure) (IsRefused mine bytes failure)
  pub met : IsMet (cause_of failure)
  pub others : OnlyOpens before mid
  pub reads : ReadCount before.read_faults mid.read_faults (cause_of failure)

memory_record : (asked : Option Command) (before after : HostState) → Unput before.told after.told → Adds (line_of OutOfMemory) before.told after.told ⊎ (after.told.said ≡ before.told.said) → HasNoMemory asked before after
memory_record asked before after unput line = record { line = line; front = []; puts = puts_of_none before.told after.told unput; is_front = inl refl }

-- with one status, or that of want of memory
by_one : (expected status : ℕ) (asked : Option Command) (before after : HostState) → (status ≡ expected) ⊎ (status ≡ 7)
    → (expected ≡ 0 → ⊥) → (expected ≡ 4 → ⊥) → (expected ≡ 9 → ⊥)
    → (expected ≡ 2 → status ≡ 2 → IsRefusedWords asked before after) → (expected ≡ 3 → status ≡ 3 → IsUnread before after)
    → (expected ≡ 5 → status ≡ 5 → IsRefusedFor OfBytes asked before after) → (expected ≡ 6 → status ≡ 6 → IsRefusedFor OfLimits asked before after)
    → (status ≡ 7 → HasNoMemory asked before after) → EndsBy status asked before after
by_one expected status asked before after ends at_zero four nine two three five six seven = record {
  done = λ e. absurd (at 0 ⊥ (λ z. omega arith) (λ z s. at_zero z) ends e);
  refused_words = λ e. at 2 (IsRefusedWords asked before after) (λ z. omega arith) two ends e;
  unread = λ e. at 3 (IsUnread before after) (λ z. omega arith) three ends e;
  unput = λ e. absurd (at 4 ⊥ (λ z. omega arith) (λ z s. four z) ends e);
  refused = λ e. at 5 (IsRefusedFor OfBytes asked before after) (λ z. omega arith) five ends e;
  past_limit = λ e. at 6 (IsRefusedFor OfLimits asked before after) (λ z. omega arith) six ends e;
  no_memory = seven;
  unsaid = λ e. absurd (at 9 ⊥ (λ z. omega arith) (λ z s. nine z) ends e);
}
  where
    at : (number : ℕ) (P : Type 0) → (7 ≡ number → ⊥) → (expected ≡ number → status ≡ number → P) → (status ≡ expected) ⊎ (status ≡ 7) → status ≡ number → P
    at number P other given (inl is) e = given (sym is ∙ e) e
    at number P other given (inr is) e = absurd (other (sym is ∙ e))

-- the status of a failure is that of its cause
status_by : (failure : Failure) (cause : Cause) (status : ℕ) → cause_of failure ≡ cause → (status ≡ status_of failure) ⊎ (status ≡ 7) → (status ≡ status_for cause) ⊎ (status ≡ 7)
status_by failure cause status is ends = subst (λ (c : Cause). (status ≡ status_for c) ⊎ (status ≡ 7)) is ends

not_seven : (status number : ℕ) → (7 ≡ number → ⊥) → status ≡ number → status ≡ 7 → ⊥
not_seven status number other e seven = other (sym seven ∙ e)

unput_failed : (failure : Failure) (mine : Command) (status : ℕ) (before mid after : HostState) → RanInto failure mine before mid → Fails failure status mid after → Unput before.told after.told
unput_failed failure mine status before mid after ran given = record { files = given.files ∙ ran.others.files; puts = given.put_paths ∙ ran.others.puts }

pub ends_failed : (asked : Option Command) (mine : Command) (failure : Failure) (status : ℕ) (before mid after : HostState) → asked ≡ Some mine → RanInto failure mine before mid → Fails failure status mid after → EndsBy status asked before after
ends_failed asked mine failure status before mid after is ran given = by (cause_of failure) refl ran.met ran.refused ran.reads
  where
    unput : Unput before.told after.told
    unput = unput_failed failure mine status before mid after ran given

    line : (number : ℕ) → (7 ≡ number → ⊥) → status ≡ number → SaysItsLine failure before after
    line number other e = told_from failure before mid after ran.others.said ran.others.say_faults (given.line (not_seven status number other e))

    memory : status ≡ 7 → HasNoMemory asked before after
    memory e = memory_record asked before after unput (memory_from (line_of OutOfMemory) before mid after ran.others.said (given.memory e))

    by : (cause : Cause) → cause_of failure ≡ cause → IsMet cause
        → ((bytes : List ℕ) → named (input_of mine) before.told ≡ Some bytes → IfOfInput cause (IsRefused mine bytes failure))
        → ReadCount before.read_faults mid.read_faults cause → EndsBy status asked before after
    by OfWords cause_is met refused counted = absurd met
    by OfPutting cause_is met refused counted = absurd met
    by OfReading cause_is met refused counted =
        by_one 3 status asked before after (status_by failure OfReading status cause_is given.statuses) (λ z. omega arith) (λ z. omega arith) (λ z. omega arith)
        (λ z s. absurd (omega arith))
        (λ z s. record {
          counted = subst (λ (n : ℕ). Rose before.read_faults n) (sym given.reads) counted;
          unput = unput;
          line = subst (λ (f : Failure). SaysItsLine f before after) (is_read failure cause_is) (line 3 (λ e. omega arith) s);
        })
        (λ z s. absurd (omega arith)) (λ z s. absurd (omega arith)) memory
    by OfBytes cause_is met refused counted =
        by_one 5 status asked before after (status_by failure OfBytes status cause_is given.statuses) (λ z. omega arith) (λ z. omega arith) (λ z. omega arith)
        (λ z s. absurd (omega arith)) (λ z s. absurd (omega arith))
        (λ z s. record { failure = failure; cause_is = cause_is; command = mine; command_is = is; is = refused; unput = unput; line = line 5 (λ e. omega arith) s })
        (λ z s. absurd (omega arith)) memory
    by OfLimits cause_is met refused counted =
        by_one 6 status asked before after (status_by failure OfLimits status cause_is given.statuses) (λ z. omega arith) (λ z. omega arith) (λ z. omega arith)
        (λ z s. absurd (omega arith)) (λ z s. absurd (omega arith)) (λ z s. absurd (omega arith))
        (λ z s. record { failure = failure; cause_is = cause_is; command = mine; command_is = is; is = refused; unput = unput; line = line 6 (λ e. omega arith) s })
        memory
    by OfMemory cause_is met refused counted =
        by_one 7 status asked before after (status_by failure OfMemory status cause_is given.statuses) (λ z. omega arith) (λ z. omega arith) (λ z. omega arith)
        (λ z s. absurd (omega arith)) (λ z s. absurd (omega arith)) (λ z s. absurd (omega arith)) (λ z s. absurd (omega arith)) memory

-- a fault of reading is counted with its status alone
counted_by : (cause : Cause) (status before mid : ℕ) → (status ≡ status_for cause) ⊎ (status ≡ 7) → ReadCount before mid cause → status ≢ 3 → status ≢ 7 → mid ≡ before
counted_by OfReading status before mid (inl e) counted three seven = absurd (three e)
counted_by OfReading status before mid (inr e) counted three seven = absurd (seven e)
counted_by OfWords status before mid ends counted three seven = counted
counted_by OfPutting status before mid ends counted three seven = counted
counted_by OfBytes status before mid ends counted three seven = counted
counted_by OfLimits status before mid ends counted three seven = counted
counted_by OfMemory status before mid ends counted three seven = counted

-- no failure has the status of what is done
not_done : (cause : Cause) (status : ℕ) → (status ≡ status_for cause) ⊎ (status ≡ 7) → status ≡ 0 → ⊥
not_done cause status (inr e) at_zero = omega arith
not_done OfWords status (inl e) at_zero = omega arith
not_done OfReading status (inl e) at_zero = omega arith
not_done OfPutting status (inl e) at_zero = omega arith
not_done OfBytes status (inl e) at_zero = omega arith
not_done OfLimits status (inl e) at_zero = omega arith
not_done OfMemory status (inl e) at_zero = omega arith

pub causes_failed : EndsOneWay → (asked : Option Command) (mine : Command) (failure : Failure) (status : ℕ) (before mid after : HostState) → asked ≡ Some mine → RanInto failure mine before mid → Fails failure status mid after → HasCauses status asked before after
causes_failed way asked mine failure status before mid after is ran given = record {
  words = λ none. absurd (some_none mine (sym is ∙ none));
  reading = λ not_three not_seven. given.reads ∙ counted_by (cause_of failure) status before.read_faults mid.read_faults given.statuses ran.reads not_three not_seven;
  putting = λ not_four not_seven. given.puts ∙ ran.others.put_faults;
  fileless = λ command command_is none. (unput_failed failure mine status before mid after ran given, given.puts ∙ ran.others.put_faults);
  refusing = λ command bytes other asks refused unread.
      refused_so way asked before.told mine command bytes failure other before.read_faults mid.read_faults after.read_faults status is ran.met ran.refused ran.reads given.reads unread asks refused given.statuses;
  saying = λ e. absurd (not_done (cause_of failure) status given.statuses e);
}

pub complete_failed : EndsOneWay → (asked : Option Command) (mine : Command) (failure : Failure) (status : ℕ) (before mid after : HostState) → asked ≡ Some mine → RanInto failure mine before mid → Fails failure status mid after → IsComplete status asked before after
complete_failed way asked mine failure status before mid after is ran given command bytes answer asks answer_is none =
    inr (complete way asked before.told mine command bytes answer failure before.read_faults mid.read_faults after.read_faults status is ran.met ran.refused ran.reads given.reads none.reads asks answer_is given.statuses)

-- a willing host counts no fault of reading on the way to a failure
unread_by : (cause : Cause) (before mid : ℕ) → IfOfReading cause ⊥ → ReadCount before mid cause → mid ≡ before
unread_by OfReading before mid never counted = absurd never
unread_by OfWords before mid never counted = counted
unread_by OfPutting before mid never counted = counted
unread_by OfBytes before mid never counted = counted
unread_by OfLimits before mid never counted = counted
unread_by OfMemory before mid never counted = counted

pub willing_failed : (mine : Command) (failure : Failure) (status : ℕ) (before mid after : HostState) → RanInto failure mine before mid → Fails failure status mid after → IfOfReading (cause_of failure) ⊥ → after.say_faults ≡ mid.say_faults → SameCounts before after
willing_failed mine failure status before mid after ran given never says = record {
  reads = given.reads ∙ unread_by (cause_of failure) before.read_faults mid.read_faults never ran.reads;
  puts = given.puts ∙ ran.others.put_faults;
  says = says ∙ ran.others.say_faults;
}

-- ---- where nothing is run

unput_of : (failure : Failure) (status : ℕ) (before after : HostState) → Fails failure status before after → Unput before.told after.told
unput_of failure status before after given = record { files = given.files; puts = given.put_paths }

pub ends_wordless : (asked : Option Command) (status : ℕ) (before after : HostState) → asked ≡ None → Fails Words status before after → EndsBy status asked before after
ends_wordless asked status before after is given =
    by_one 2 status asked before after given.statuses (λ z. omega arith) (λ z. omega arith) (λ z. omega arith)
    (λ z s. record { nothing = is; unput = unput_of Words status before after given; line = given.line (not_seven status 2 (λ e. omega arith) s) })
    (λ z s. absurd (omega arith)) (λ z s. absurd (omega arith)) (λ z s. absurd (omega arith))
    (λ e. memory_record asked before after (unput_of Words status before after given) (given.memory e))

pub causes_wordless : (asked : Option Command) (status : ℕ) (before after : HostState) → asked ≡ None → Fails Words status before after → HasCauses status asked before after
causes_wordless asked status before after is given = record {
  words = λ none. given.statuses;
  reading = λ not_three not_seven. given.reads;
  putting = λ not_four not_seven. given.puts;
  fileless = λ command command_is none. (unput_of Words status before after given, given.puts);
  refusing = λ command bytes failure asks refused unread. absurd (some_none command (sym asks.command_is ∙ is));
  saying = λ e. absurd (not_done OfWords status given.statuses e);
}

pub complete_wordless : (asked : Option Command) (status : ℕ) (before after : HostState) → asked ≡ None → IsComplete status asked before after
complete_wordless asked status before after is command bytes answer asks answer_is none = absurd (some_none command (sym asks.command_is ∙ is))

-- ---- where there is no memory for the words

seven_of : (status : ℕ) → (status ≡ 7) ⊎ (status ≡ 7) → status ≡ 7
seven_of status (inl e) = e
seven_of status (inr e) = e

pub ends_memoryless : (asked : Option Command) (status : ℕ) (before after : HostState) → Fails OutOfMemory status before after → EndsBy status asked before after
ends_memoryless asked status before after given =
    by_one 7 status asked before after given.statuses (λ z. omega arith) (λ z. omega arith) (λ z. omega arith)
    (λ z s. absurd (omega arith)) (λ z s. absurd (omega arith)) (λ z s. absurd (omega arith)) (λ z s. absurd (omega arith))
    (λ e. memory_record asked before after (unput_of OutOfMemory status before after given) (given.memory e))

pub causes_memoryless : (asked : Option Command) (status : ℕ) (before after : HostState) → Fails OutOfMemory status before after → HasCauses status asked before after
causes_memoryless asked status before after given = record {
  words = λ none. inr (seven_of status given.statuses);
  reading = λ not_three not_seven. given.reads;
  putting = λ not_four not_seven. given.puts;
  fileless = λ command command_is none. (unput_of OutOfMemory status before after given, given.puts);
  refusing = λ command bytes failure asks refused unread. inr (seven_of status given.statuses);
  saying = λ e. absurd (not_done OfMemory status given.statuses e);
}

pub complete_memoryless : (asked : Option Command) (status : ℕ) (before after : HostState) → Fails OutOfMemory status before after → IsComplete status asked before after
complete_memoryless asked status before after given command bytes answer asks answer_is none = inr (seven_of status given.statuses)

-- a command with this status isn't done
pub no_headline : (asked : Option Command) (failure : Failure) (status : ℕ) (before mid after : HostState) → Fails failure status mid after → KeepsHeadline status asked before after
no_headline asked failure status before mid after given e command bytes asks = absurd (not_done (cause_of failure) status given.statuses e)

-- ---- the four ways together

pub delivered_end : EndsOneWay → BuiltWalks → (mine : Command) (answer : Answer) (status : ℕ) (before mid after : HostState) → RanTo answer mine before mid → Delivers answer status mid after
    → (before.willing → after.put_faults ≡ mid.put_faults) → (before.willing → after.say_faults ≡ mid.say_faults) → IsEnd status (Some mine) before after
delivered_end way law mine answer status before mid after ran given puts says = record {
  ends = ends_delivered (Some mine) mine answer status before mid after refl ran given;
  causes = causes_delivered way (Some mine) mine answer status before mid after refl ran given;
  complete = λ command bytes other asks is none. complete_delivered (Some mine) mine answer status before mid after ran given none;
  willing = λ willing there. record { reads = given.reads ∙ ran.reads; puts = puts willing ∙ ran.others.put_faults; says = says willing ∙ ran.others.say_faults };
  headline = headline_delivered (Some mine) mine answer status before mid after law refl ran given;
}

pub failed_end : EndsOneWay → (mine : Command) (failure : Failure) (status : ℕ) (before mid after : HostState) → RanInto failure mine before mid → Fails failure status mid after
    → (before.willing → IsSome (named (input_of mine) before.told) → IfOfReading (cause_of failure) ⊥) → (before.willing → after.say_faults ≡ mid.say_faults) → IsEnd status (Some mine) before after
failed_end way mine failure status before mid after ran given never says = record {
  ends = ends_failed (Some mine) mine failure status before mid after refl ran given;
  causes = causes_failed way (Some mine) mine failure status before mid after refl ran given;
  complete = complete_failed way (Some mine) mine failure status before mid after refl ran given;
  willing = λ willing there. willing_failed mine failure status before mid after ran given (never willing there) (says willing);
  headline = no_headline (Some mine) failure status before mid after given;
}

pub wordless_end : (asked : Option Command) (status : ℕ) (before after : HostState) → asked ≡ None → Fails Words status before after → (before.willing → after.say_faults ≡ before.say_faults) → IsEnd status asked before after
wordless_end asked status before after is given says = record {
  ends = ends_wordless asked status before after is given;
  causes = causes_wordless asked status before after is given;
  complete = complete_wordless asked status before after is;
  willing = λ willing there. record { reads = given.reads; puts = given.puts; says = says willing };
  headline = no_headline asked Words status before before after given;
}

pub memoryless_end : (asked : Option Command) (status : ℕ) (before after : HostState) → Fails OutOfMemory status before after → (before.willing → after.say_faults ≡ before.say_faults) → IsEnd status asked before after
memoryless_end asked status before after given says = record {
  ends = ends_memoryless asked status before after given;
  causes = causes_memoryless asked status before after given;
  complete = complete_memoryless asked status before after given;
  willing = λ willing there. record { reads = given.reads; puts = given.puts; says = says willing };
  headline = no_headline asked OutOfMemory status before before after given;
}

-- an end of the command that is asked for
pub asked_end : (mine : Command) (asked : Option Command) (status : ℕ) (before after : HostState) → Some mine ≡ asked → IsEnd status (Some mine) before after → IsEnd status asked before after
asked_end mine asked status before after is end = subst (λ (a : Option Command). IsEnd status a before after) is end
