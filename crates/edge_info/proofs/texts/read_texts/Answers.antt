use Rattle.std.proofs.Common.{◌≡◌, length, rules, sym, ◌∙◌, true, false}
use Rattle.edge_info.specs.Entries.{names_of}
use Rattle.edge_info.specs.TextReading.{texts_there}
use Rattle.edge_info.proofs.TextParts.{places_are, late_are, all_are, unnamed, all_fine}
use Rattle.edge_info.proofs.texts.read_texts.Goals as goal

pub returns-then-not-are_named : goal.returns-then-not-are_named
returns-then-not-are_named c =
    let names = names_of c.args.infos.now in
    let count = texts_there c.args.count c.args.section.now in
    let places = c.in_ok-places.places.items in
    let first : c.names-names.result.now ≡ names_of c.args.infos.now = c.names-names.ensures in
    let second : c.deref.result.now ≡ c.in_ok-places.places.items = c.deref.ensures.value in
    let third : c.names-names.result.now ≡ names_of c.args.infos.now = c.names-names.ensures in
    let fourth : c.deref-2.result.now ≡ c.in_ok-places.places.items = c.deref-2.ensures.value in
    let fifth : c.names-names.result.now ≡ names_of c.args.infos.now = c.names-names.ensures in
    let are = places_are names count places c.names-names.result.now c.count_there.result first c.count_there.ensures c.in_ok-places.ensures in
    let late = late_are names count places c.deref.result.now c.names-names.result.now c.first_late-late.result second third are c.first_late-late.ensures in
    let none : length c.in_ok-texts.rest.now ≡ 0 = search rules in
    let told : c.are_named.result ≡ false = search rules in
    let all = all_are names places c.deref-2.result.now c.names-names.result.now false fourth fifth (sym c.are_named.ensures ∙ told) in
    let many = c.in_ok-texts.ensures names count late in
    rw c.bad-then-not-are_named.ensures (unnamed c.args.end names places c.args.count c.args.section.now c.in_ok-texts.texts.items c.in_ok-texts.rest.now many none are all)

pub returns : goal.returns
returns c =
    let names = names_of c.args.infos.now in
    let count = texts_there c.args.count c.args.section.now in
    let places = c.in_ok-places.places.items in
    let first : c.names-names.result.now ≡ names_of c.args.infos.now = c.names-names.ensures in
    let second : c.deref.result.now ≡ c.in_ok-places.places.items = c.deref.ensures.value in
    let third : c.names-names.result.now ≡ names_of c.args.infos.now = c.names-names.ensures in
    let fourth : c.deref-2.result.now ≡ c.in_ok-places.places.items = c.deref-2.ensures.value in
    let fifth : c.names-names.result.now ≡ names_of c.args.infos.now = c.names-names.ensures in
    let are = places_are names count places c.names-names.result.now c.count_there.result first c.count_there.ensures c.in_ok-places.ensures in
    let late = late_are names count places c.deref.result.now c.names-names.result.now c.first_late-late.result second third are c.first_late-late.ensures in
    let none : length c.in_ok-texts.rest.now ≡ 0 = search rules in
    let told : c.are_named.result ≡ true = search rules in
    let all = all_are names places c.deref-2.result.now c.names-names.result.now true fourth fifth (sym c.are_named.ensures ∙ told) in
    let many = c.in_ok-texts.ensures names count late in
    rw c.from_vec.ensures (all_fine c.args.end names places c.args.count c.args.section.now c.in_ok-texts.texts.items c.in_ok-texts.rest.now many none are all)
