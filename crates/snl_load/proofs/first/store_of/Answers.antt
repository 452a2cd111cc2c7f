use Rattle.std.proofs.Common.{◌≡◌, ◌∙◌, ap, sym, rules, ℕ, None, false, map, length, replicate}
use Rattle.std.specs.List.{flat_map}
use Rattle.std.proofs.lemmas.List.{length-map}
use Rattle.snl_channels.specs.LinkViews.{link_view}
use Rattle.snl_meaning.specs.declared.live.Live.TheVariants.{Waiting}
use Rattle.snl_names.specs.CopyVariables.{variable_view}
use Rattle.snl_flat.specs.Copies.{sets_of}
use Rattle.snl_load.specs.First.{first_copy, first_shared}
use Rattle.snl_load.specs.Initials.{first_buffer}
use Rattle.snl_load.specs.Places.{homes_in}
use Rattle.snl_load.specs.Sets.{names_in}
use Rattle.snl_load.proofs.first.store_of.Goals as goal

pub returns : goal.returns
returns c =
    let names = names_in c.args.names.now in
    let ls = map link_view c.args.links.now in
    let sets = ap sets_of c.as_slice-sets.ensures.value in
    let shared = ap (λ vs. first_shared (map variable_view vs)) c.as_slice-shared.ensures.value in
    let places = ap (λ copies. homes_in copies ls) c.as_slice-places.ensures.value in
    let flags : c.in_ok-vec.field-0.items ≡ replicate c.args.flags false = search rules in
    let ups : c.in_ok-vec-2.field-0.items ≡ replicate (length names) false = search (rules, length-map) in
    let valued : c.in_ok-vec-3.field-0.items ≡ replicate (length names) false = search (rules, length-map) in
    let links = sym (length-map c.args.links.now link_view) in
    let waiting : c.in_ok-vec-4.field-0.items ≡ replicate (length (map link_view c.args.links.now)) false = search (rules, length-map) in
    let copies = c.in_ok-first_copies.ensures ∙ ap (map first_copy) sets in
    let buffers = c.in_ok-first_buffers.ensures ∙ ap (λ all. flat_map (first_buffer all) ls) sets in
    let marks = c.in_ok-marks_of.ensures ∙ ap (λ (n : ℕ). map (λ vs. replicate n false) (sets_of c.as_slice-sets.result.now)) links ∙ ap (map (λ vs. replicate (length ls) false)) sets in
    let words = c.in_ok-first_shared.ensures ∙ shared in
    let homes = c.in_ok-homes_in.ensures ∙ places in
    λ j. record {
      time = 0;
      phase = Waiting;
      ticks = 0;
      wake = None;
      due = None;
      copies = copies j;
      shared = words j;
      flags = flags j;
      channels = c.in_ok-names_of.ensures j;
      ups = ups j;
      valued = valued j;
      ties = c.in_ok-from_slice.ensures.items j;
      homes = homes j;
      buffers = buffers j;
      marks = marks j;
      queues = c.in_ok-queues_of.ensures j;
      waiting = waiting j;
    }
