use Rattle.std.proofs.Common.{rules, ◌∙◌, sym, ap, ℕ, List, Some, Ok}
use Rattle.std.specs.Str.{IsUtf8}
use Rattle.pbf_blobs.specs.Walk.{FindsHeader}
use Rattle.pbf_blobs.proofs.HeaderParts.{header_of-found, kind_and_size_text, kind_and_size_none}
use Rattle.pbf_blobs.proofs.parts.read_header.Goals as goal

pub returns-in-Ok-from_utf8-clause-found : goal.returns-in-Ok-from_utf8-clause-found
returns-in-Ok-from_utf8-clause-found c =
    let kind : ℕ × List ℕ = (c.in-Some.field-0-0, c.in-Some.kind.now) in
    let found : FindsHeader c.args.at c.args.header.now (Some kind) (Some c.in-Some-size.size) = search rules in
    header_of-found c.args.at c.args.header.now kind c.in-Some-size.size found
    ∙ kind_and_size_text c.args.at kind c.in-Some-size.size c.in-Ok-from_utf8.ensures.cases.1
    ∙ ap (λ text. Ok (text, c.in-Some-size.size)) (sym c.in-Ok-from_utf8.ensures.cases.0)

pub returns-in-Err-from_utf8-clause-fault : goal.returns-in-Err-from_utf8-clause-fault
returns-in-Err-from_utf8-clause-fault c =
    let kind : ℕ × List ℕ = (c.in-Some.field-0-0, c.in-Some.kind.now) in
    let found : FindsHeader c.args.at c.args.header.now (Some kind) (Some c.in-Some-size.size) = search rules in
    let none : IsUtf8 kind.1 → ⊥ = search rules in
    header_of-found c.args.at c.args.header.now kind c.in-Some-size.size found ∙ kind_and_size_none c.args.at kind c.in-Some-size.size none
