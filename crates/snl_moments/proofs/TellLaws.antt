-- Laws of what a store tells.
use Rattle.std.proofs.Common.{◌≡◌, ◌∙◌, ℕ, Bool, List, [], ◌∷◌, ◌++◌, None, ap, sym, subst}
use Rattle.std.specs.List.{All}
use Rattle.std.proofs.lemmas.List.Elements.{All-push}
use Rattle.snl_machine.specs.MachineOf.{world_held}
use Rattle.snl_machine.specs.Snapshots.{Pictures, anew}
use Rattle.snl_machine.specs.declared.snapshots.Snapshot.{Snapshot}
use Rattle.snl_meaning.specs.Frames.{Frame}
use Rattle.snl_meaning.specs.World.{World}
use Rattle.snl_machine.specs.declared.machine.Machine.{Machine}
use Rattle.snl_moments.proofs.PlanLaws.{from-same}
use Rattle.snl_moments.proofs.WalkLaws.{idle-same}
use Rattle.snl_moments.specs.Comes.{ComesTo}
use Rattle.snl_moments.specs.Plans.{AreFrom, SameAsked, left_of}
use Rattle.snl_moments.specs.Tells.{IsAtTime, IsMoment, Tells, bare, sizes_of}
use Rattle.snl_moments.specs.Walks.{HasRoom, MeansAs, Stands}
use Rattle.snl_moments.specs.declared.subject.Subject.{Subject}
use Rattle.snl_moments.specs.declared.walks.Moment.{Moment}
use Rattle.snl_trace.specs.Run.{Rules}
use Rattle.snl_vm.specs.Pictures.{TakesPicture, lasting_frame}
use Rattle.snl_vm.specs.Views.{world_of}
use Rattle.snl_vm.specs.declared.stores.Store.{Store}

-- a store with what another one has of links and of the names of channels
abbrev borrowed : Store → Store → Store
borrowed by s = record s { channels = by.channels; ties = by.ties; homes = by.homes }

-- it is as large as that, where its other parts are
borrowed-frame : (by s : Store) → sizes_of (world_of s) ≡ sizes_of (world_of by) → lasting_frame (world_of (borrowed by s)) ≡ lasting_frame (world_of by)
borrowed-frame by s same = let v = world_of by in ap (λ (f : Frame). record f { channels = v.channels; ties = v.ties; homes = v.homes }) same

-- a world as a snapshot says it is
abbrev as_told : Snapshot → World → World
as_told from w = record w { time = from.time; phase = from.phase; wake = from.wake; ticks = 0; due = None }

-- a store that took a picture tells the world
pub takes : (old mid new : Store) (from : Snapshot) (w : World) → TakesPicture from.words.items old mid → world_of new ≡ as_told from (world_of mid) → Pictures from (anew w) →
    HasRoom w old → Tells new w
takes old mid new from w took is pictures room =
    let t = borrowed old pictures.store in
    let large : sizes_of (world_of pictures.store) ≡ sizes_of (world_of old) = ap (λ (v : World). sizes_of v) pictures.world_is ∙ sym room in
    let had = took t (borrowed-frame old pictures.store large) (record {
      is = pictures.words.is;
      copies_fit = pictures.words.copies_fit;
      marks_fit = pictures.words.marks_fit;
      queues_fit = pictures.words.queues_fit;
    }) in
    ap (λ (v : World). bare v) is
    ∙ ap (λ (v : World). bare (as_told from v)) had
    ∙ (λ j. bare (record (pictures.world_is j) { time = pictures.time j; phase = pictures.phase j; wake = pictures.wake j }))

-- a store that tells a world has room for it
pub room-of : (s : Store) (w : World) → Tells s w → HasRoom w s
room-of s w tells = ap (λ (v : World). sizes_of v) tells

-- one more moment
pub tells-more : (at_end : Bool) (r : Rules) (first : World) (gave rest : List ℕ) (s t : Subject) (m : Moment) → Stands at_end r first gave rest s →
    t.machine ≡ s.machine → SameAsked s t → All (HasRoom (world_held s.machine)) t.spares.items → t.moments.items ≡ s.moments.items ++ m ∷ [] →
    IsAtTime at_end m.kind r (world_held s.machine) rest → Tells m.store (world_held s.machine) → Stands at_end r first gave rest t
tells-more at_end r first gave rest s t m at machine asked spares moments when tells =
    let w = world_held s.machine in
    record {
      means = subst (λ (k : Machine). MeansAs r k) (sym machine) at.means;
      behind = subst (λ (k : Machine). ComesTo at_end r first gave rest (world_held k)) (sym machine) at.behind;
      early = subst (λ (k : Machine). AreFrom (world_held k).time (left_of t)) (sym machine) (from-same w.time s t asked at.early);
      idle = idle-same s t asked at.idle;
      spares = subst (λ (k : Machine). All (HasRoom (world_held k)) t.spares.items) (sym machine) spares;
      moments = subst (λ (xs : List Moment). All (IsMoment at_end r first gave) xs) (sym moments)
          (All-push (IsMoment at_end r first gave) s.moments.items m at.moments (record { world = w; rest = rest; behind = at.behind; at = when; tells = tells }));
      rooms = subst (λ (k : Machine). All (λ (x : Moment). HasRoom (world_held k) x.store) t.moments.items) (sym machine)
          (subst (λ (xs : List Moment). All (λ (x : Moment). HasRoom w x.store) xs) (sym moments)
          (All-push (λ (x : Moment). HasRoom w x.store) s.moments.items m at.rooms (room-of m.store w tells)));
    }
