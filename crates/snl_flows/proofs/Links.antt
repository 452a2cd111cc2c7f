-- What of a world its links are stays where other words come to it.
use Rattle.std.proofs.Common.{◌≡◌, ◌∙◌, refl, sym, ap, ℕ, zero, suc, ℤ, List, [], ◌∷◌, length, map}
use Rattle.std.specs.Prelude.{slice_index_or}
use Rattle.snl_meaning.specs.Frames.{room_in}
use Rattle.snl_meaning.specs.Links.{no_queue, queue_of, with_elements}
use Rattle.snl_meaning.specs.World.{Queue, World}
use Rattle.snl_meaning.proofs.Sizes.{set-many}
use Rattle.snl_alike.specs.TwoRuns.{Common, with_common}
use Rattle.snl_flows.specs.Tables.{Ground, HasLinks, room_of}

-- the size and the width of a queue among others
rooms-at : (queues : List Queue) (link : ℕ) → slice_index_or (map room_in queues) link (0, 0) ≡ room_in (slice_index_or queues link no_queue)
rooms-at [] link = refl
rooms-at (q ∷ queues) zero = refl
rooms-at (q ∷ queues) (suc link) = rooms-at queues link

module _ (g : Ground) where
  -- all is as before that links are
  pub links-same : (w v : World) → v.channels ≡ w.channels → v.ties ≡ w.ties → v.homes ≡ w.homes → map room_in v.queues ≡ map room_in w.queues → length v.copies ≡ length w.copies →
      HasLinks g w → HasLinks g v
  links-same w v channels ties homes queues many links =
      record { channels = channels ∙ links.channels; ties = ties ∙ links.ties; homes = homes ∙ links.homes; rooms = queues ∙ links.rooms; many = many ∙ links.many }

  -- what worlds have in common is changed, but for links
  pub links-with : (r : Common) (w : World) → r.homes ≡ w.homes → r.ties ≡ w.ties → r.channels ≡ w.channels → map room_in r.queues ≡ map room_in w.queues → HasLinks g w →
      HasLinks g (with_common r w)
  links-with r w homes ties channels queues links = links-same w (with_common r w) channels ties homes queues refl links

  -- values come to a copy
  pub links-elements : (set place : ℕ) (zs : List ℤ) (w : World) → HasLinks g w → HasLinks g (with_elements set place zs w)
  links-elements set place zs w links = links-same w (with_elements set place zs w) refl refl refl refl (set-many w.copies set _) links

  -- other places may be hidden,
  pub links-hidden : (places : List (List ℕ)) (w : World) → HasLinks g w → HasLinks (record g { hidden = places }) w
  links-hidden places w links = record { channels = links.channels; ties = links.ties; homes = links.homes; rooms = links.rooms; many = links.many }

  -- and back
  pub links-shown : (places : List (List ℕ)) (w : World) → HasLinks (record g { hidden = places }) w → HasLinks g w
  links-shown places w links = record { channels = links.channels; ties = links.ties; homes = links.homes; rooms = links.rooms; many = links.many }

  -- the size and the width of the queue of a link
  pub room-is : (w : World) (link : ℕ) → HasLinks g w → room_of g link ≡ room_in (queue_of link w)
  room-is w link links = ap (λ (rooms : List (ℕ × ℕ)). slice_index_or rooms link (0, 0)) (sym links.rooms) ∙ rooms-at w.queues link
