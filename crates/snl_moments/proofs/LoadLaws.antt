-- Laws of a program that is loaded, and of the room for its moments.
use Rattle.std.proofs.Common.{◌≡◌, ◌∙◌, ℕ, List, [], ◌∷◌, ◌++◌, Option, ap, length, sym, subst}
use Rattle.std.specs.List.{All}
use Rattle.std.proofs.lemmas.List.Elements.{All-push, All-weaker}
use Rattle.snl_channels.specs.Links.{Link, links}
use Rattle.snl_check.specs.declared.checked.Checked.{Checked}
use Rattle.snl_flat.specs.Copies.{held_sets}
use Rattle.snl_load.specs.First.{first_world, first_world_of}
use Rattle.snl_load.specs.Places.{channels, flags_in}
use Rattle.snl_machine.specs.Loading.{IsLoadedFrom}
use Rattle.snl_machine.specs.MachineOf.{world_held}
use Rattle.snl_machine.specs.declared.machine.Machine.{Machine}
use Rattle.snl_meaning.specs.World.{World}
use Rattle.snl_moments.specs.Tells.{sizes_of}
use Rattle.snl_moments.specs.Walks.{HasRoom}
use Rattle.snl_names.specs.Variables.{CopyVariable, shared_variables}
use Rattle.snl_syntax.specs.Programs.{ProgramTree}
use Rattle.snl_syntax.specs.view.Programs.{program_view}
use Rattle.snl_vm.specs.Views.{world_of}
use Rattle.snl_vm.specs.declared.stores.Store.{Store}

-- stores that are made of a program, without what its links are tied to, have room for its first world
pub rooms-first : (p : ProgramTree) (ls : List Link) (sets : List (List CopyVariable)) (shared : List CopyVariable) (flags : ℕ) (names : List (List ℕ))
    (homes : List (List (Option ℕ))) (spares : List Store) → sets ≡ held_sets p 0 p.state_sets → shared ≡ shared_variables p → flags ≡ length (flags_in p) → names ≡ channels ls →
    All (HasRoom (first_world sets shared flags names [] homes ls)) spares → All (HasRoom (first_world_of p ls)) spares
rooms-first p ls sets shared flags names homes spares same-sets same-shared same-flags same-names rooms =
    All-weaker (HasRoom (first_world sets shared flags names [] homes ls)) (HasRoom (first_world_of p ls))
    (λ s room. room ∙ (λ j. sizes_of (first_world (same-sets j) (same-shared j) (same-flags j) (same-names j) [] homes ls))) spares rooms

-- one more store, of a world
pub rooms-more : (w : World) (spares new : List Store) (s : Store) → new ≡ spares ++ s ∷ [] → All (HasRoom w) spares → world_of s ≡ w → All (HasRoom w) new
rooms-more w spares new s added rooms is = subst (λ (xs : List Store). All (HasRoom w) xs) (sym added) (All-push (HasRoom w) spares s rooms (ap (λ (v : World). sizes_of v) is))

-- the tree and the links of a program
pub rooms-same : (p q : ProgramTree) (ls ms : List Link) (spares : List Store) → p ≡ q → ls ≡ ms → All (HasRoom (first_world_of p ls)) spares → All (HasRoom (first_world_of q ms)) spares
rooms-same p q ls ms spares trees links-are rooms = subst (λ (w : World). All (HasRoom w) spares) (λ j. first_world_of (trees j) (links-are j)) rooms

-- so have they for the world of a machine that is loaded
pub rooms-loaded : (c : Checked) (macros : List ℕ) (budget : ℕ) (m : Machine) (spares : List Store) → IsLoadedFrom c macros budget m →
    All (HasRoom (first_world_of (program_view c.program) (links (program_view c.program) macros))) spares → All (HasRoom (world_held m)) spares
rooms-loaded c macros budget m spares loaded rooms = subst (λ (w : World). All (HasRoom w) spares) (sym loaded.first) rooms
