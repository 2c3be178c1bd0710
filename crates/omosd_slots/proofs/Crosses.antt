-- A hub may be shared between threads: each of the types that it is made of may cross to another.
-- The stages are lemmas, since one search for the whole hits its limits.
--     hub_sync      the one that is asked for
use denote.Param.Send.{IsSend, IsSync, sendable, view_send, view_sync, recorded_send, recorded_sync}
use denote.Param.Send.{struct_send, struct_sync}
use denote.Param.SendFields.{declared_send, declared_sync, variants_send, as_row_send, as_row_sync}
use Rattle.std.proofs.Crossing.{crosses}
use Rattle.omos_model.proofs.expr.Expr.TheLaws.TheKnot as knot
use Rattle.omos_model.specs.contracts.entry.Stamped as stamped
use Rattle.omos_base.specs.contracts.row.Row as row
use Rattle.omos_base.specs.contracts.shared.Shared as shared
use Rattle.history_book.below.arrayvec.proofs.array_vec.ArrayVec.TheSendSync as arrayvec_crosses
use Rattle.history_book.below.arrayvec.proofs.cells.Cells.TheSendSync as cells_crosses
use Rattle.omos_base.proofs.bytes.Bytes.TheSendSync as bytes_crosses
use Rattle.omos_base.proofs.packed.Packed.TheSendSync as packed_crosses
use Rattle.omos_base.proofs.part.Part.TheSendSync as part_crosses
use Rattle.omos_base.proofs.path_name.PathName.TheSendSync as pathname_crosses
use Rattle.omos_base.proofs.row.Row.TheSendSync as row_crosses
use Rattle.omos_base.proofs.shared.Shared.TheSendSync as shared_crosses
use Rattle.omos_base.proofs.sym_name.SymName.TheSendSync as symname_crosses
use Rattle.omos_model.proofs.entry.Start.TheSendSync as start_crosses
use Rattle.omos_model.proofs.fragment.Aim.TheSendSync as aim_crosses
use Rattle.omos_model.proofs.fragment.Export.TheSendSync as export_crosses
use Rattle.omos_model.proofs.fragment.Fixup.TheSendSync as fixup_crosses
use Rattle.omos_model.proofs.fragment.Fragment.TheSendSync as fragment_crosses
use Rattle.omos_model.proofs.fragment.Group.TheSendSync as group_crosses
use Rattle.omos_model.proofs.fragment.Kind.TheSendSync as kind_crosses
use Rattle.omos_model.proofs.fragment.Piece.TheSendSync as piece_crosses
use Rattle.omos_model.proofs.fragment.Spot.TheSendSync as spot_crosses
use Rattle.sqlite_items.proofs.boxed.Boxed.TheSendSync as boxed_crosses
use Rattle.sqlite_items.proofs.items.Items.TheSendSync as items_crosses
use Rattle.std.proofs.alloc.Global.TheSendSync as global_crosses
use Rattle.std.proofs.boxed.Box.TheSendSync as box_crosses
use Rattle.std.proofs.rt.Memory.TheSendSync as memory_crosses
use Rattle.std.proofs.sync.Arc.TheSendSync as arc_crosses
use Rattle.std.proofs.vec.Vec.TheSendSync as vec_crosses
use Rattle.name_tree.specs.contracts.snap.Snap as snap
use Rattle.name_tree.specs.contracts.snap.Snap.TheInside as inside
use Rattle.name_tree.specs.contracts.few.Few as few
use Rattle.name_tree.specs.contracts.few.Small as small
use Rattle.name_tree.specs.contracts.root.Root as root
use Rattle.name_tree.proofs.few.Few.TheSendSync as few_crosses
use Rattle.name_tree.proofs.few.Small.TheSendSync as small_crosses
use Rattle.seeded_hash.proofs.hasher.NameHasher.TheSendSync as hasher_crosses
use Rattle.seeded_hash.proofs.seed.Seed.TheSendSync as seed_crosses
use Rattle.link_model.specs.contracts.linked.Linked as linked
use Rattle.history_book.specs.contracts.brief.Brief as brief
use Rattle.history_book.proofs.step.Note.TheSendSync as note_crosses
use Rattle.omos_model.specs.contracts.entry.Entry as entry
use Rattle.omos_model.specs.contracts.refusal.Refusal as refusal
use Rattle.omos_model.proofs.refusal.Refusal.TheSendSync as refusal_crosses
use Rattle.history_book.specs.contracts.record.Record as recorded
use Rattle.history_book.proofs.tally.Tally.TheSendSync as tally_crosses
use Rattle.image_cache.specs.contracts.item.Item as item
use Rattle.image_cache.specs.contracts.cache.Cache as cache
use Rattle.std.proofs.option.Option.TheSendSync as option_crosses
use Rattle.place_book.specs.contracts.book.Book as book
use Rattle.place_book.proofs.book.Book.TheSendSync as book_crosses
use Rattle.hub_store.specs.contracts.store.Store as store
use Rattle.omos_hub.specs.contracts.held.Held as held
use Rattle.turn_lock.specs.contracts.lock.TurnLock as lock
use Rattle.turn_lock.proofs.lock.TurnLock.TheSendSync as lock_crosses
use Rattle.omos_hub.specs.contracts.hub.Hub as hub

ruleset crossing = (
  arrayvec_crosses.the_send,
  arrayvec_crosses.the_sync,
  cells_crosses.the_field_send,
  cells_crosses.the_send,
  cells_crosses.the_field_sync,
  cells_crosses.the_sync,
  memory_crosses.the_field_send,
  memory_crosses.the_send,
  memory_crosses.the_field_sync,
  memory_crosses.the_sync,
  bytes_crosses.the_send,
  bytes_crosses.the_sync,
  packed_crosses.the_send,
  packed_crosses.the_sync,
  part_crosses.the_send,
  part_crosses.the_sync,
  pathname_crosses.the_send,
  pathname_crosses.the_sync,
  row_crosses.the_send,
  row_crosses.the_sync,
  shared_crosses.the_send,
  shared_crosses.the_sync,
  symname_crosses.the_send,
  symname_crosses.the_sync,
  start_crosses.the_field_send,
  start_crosses.the_send,
  start_crosses.the_field_sync,
  start_crosses.the_sync,
  aim_crosses.the_field_send,
  aim_crosses.the_send,
  aim_crosses.the_field_sync,
  aim_crosses.the_sync,
  export_crosses.the_field_send,
  export_crosses.the_send,
  export_crosses.the_field_sync,
  export_crosses.the_sync,
  fixup_crosses.the_field_send,
  fixup_crosses.the_send,
  fixup_crosses.the_field_sync,
  fixup_crosses.the_sync,
  fragment_crosses.the_send,
  fragment_crosses.the_sync,
  group_crosses.the_field_send,
  group_crosses.the_send,
  group_crosses.the_field_sync,
  group_crosses.the_sync,
  kind_crosses.the_field_send,
  kind_crosses.the_send,
  kind_crosses.the_field_sync,
  kind_crosses.the_sync,
  piece_crosses.the_field_send,
  piece_crosses.the_send,
  piece_crosses.the_field_sync,
  piece_crosses.the_sync,
  spot_crosses.the_field_send,
  spot_crosses.the_send,
  spot_crosses.the_field_sync,
  spot_crosses.the_sync,
  boxed_crosses.the_send,
  boxed_crosses.the_sync,
  items_crosses.the_send,
  items_crosses.the_sync,
  arc_crosses.the_send,
  arc_crosses.the_sync,
  box_crosses.the_send,
  box_crosses.the_sync,
  vec_crosses.the_send,
  vec_crosses.the_sync,
  global_crosses.the_field_send,
  global_crosses.the_send,
  global_crosses.the_field_sync,
  global_crosses.the_sync,
  crosses,
  knot.crosses,
  sendable,
)

stamped_send : IsSend stamped.the_row
stamped_send = search crossing depth 60 fits 20000

stamped_sync : IsSync stamped.the_row
stamped_sync = search crossing depth 60 fits 20000

module _ (R : denote.RattleType.RattleType) (s : IsSend R) (t : IsSync R) where
  row_send : IsSend (shared.the_row (row.the_row R))
  row_send =
      shared_crosses.the_send (row.the_row R) (row_crosses.the_send R s) (row_crosses.the_sync R t)

  row_sync : IsSync (shared.the_row (row.the_row R))
  row_sync =
      shared_crosses.the_sync (row.the_row R) (row_crosses.the_send R s) (row_crosses.the_sync R t)

  few_send : IsSend (shared.the_row (few.the_row R))
  few_send =
      shared_crosses.the_send (few.the_row R) (few_crosses.the_send R s) (few_crosses.the_sync R t)

  few_sync : IsSync (shared.the_row (few.the_row R))
  few_sync =
      shared_crosses.the_sync (few.the_row R) (few_crosses.the_send R s) (few_crosses.the_sync R t)

  small_send : IsSend (shared.the_row (small.the_row R))
  small_send =
      shared_crosses.the_send (small.the_row R) (small_crosses.the_send R s)
      (small_crosses.the_sync R t)

leaf_send : IsSend (shared.the_row (row.the_row stamped.the_row))
leaf_send = row_send stamped.the_row stamped_send stamped_sync

leaf_sync : IsSync (shared.the_row (row.the_row stamped.the_row))
leaf_sync = row_sync stamped.the_row stamped_send stamped_sync

page_send : IsSend (shared.the_row (few.the_row stamped.the_row))
page_send = few_send stamped.the_row stamped_send stamped_sync

page_sync : IsSync (shared.the_row (few.the_row stamped.the_row))
page_sync = few_sync stamped.the_row stamped_send stamped_sync

branch_send : IsSend (shared.the_row (few.the_row (shared.the_row (few.the_row stamped.the_row))))
branch_send = few_send _ page_send page_sync

branch_sync : IsSync (shared.the_row (few.the_row (shared.the_row (few.the_row stamped.the_row))))
branch_sync = few_sync _ page_send page_sync

branches_send : IsSend
    (shared.the_row
    (few.the_row (shared.the_row (few.the_row (shared.the_row (few.the_row stamped.the_row))))))
branches_send = few_send _ branch_send branch_sync

small_branches_send : IsSend
    (shared.the_row
    (small.the_row (shared.the_row (few.the_row (shared.the_row (few.the_row stamped.the_row))))))
small_branches_send = small_send _ branch_send branch_sync

many_send : IsSend
    (shared.the_row
    (row.the_row (shared.the_row (few.the_row (shared.the_row (few.the_row stamped.the_row))))))
many_send = row_send _ branch_send branch_sync

root_send : IsSend root.the_row
root_send = search (small_branches_send, branches_send, many_send, sendable) depth 60 fits 20000

inside_send : IsSend inside.the_row
inside_send =
    declared_send inside.the_type (
      search (crosses, sendable) depth 20 fits 4000,
      (
        search (
          seed_crosses.the_field_send,
          seed_crosses.the_send,
          hasher_crosses.the_field_send,
          hasher_crosses.the_send,
          crosses,
          sendable,
        ) depth 20 fits 4000,
        (search (root_send, as_row_send, sendable) depth 20 fits 4000, (search sendable, tt)),
      ),
    )

snap_send : IsSend snap.the_row
snap_send = search (inside_send, sendable) depth 20 fits 4000

linked_send : IsSend linked.the_row
linked_send =
    search (leaf_send, bytes_crosses.the_send, pathname_crosses.the_send, sendable) depth 20 fits
    4000

linked_sync : IsSync linked.the_row
linked_sync =
    search (leaf_sync, bytes_crosses.the_sync, pathname_crosses.the_sync, sendable) depth 20 fits
    4000

entry_send : IsSend entry.the_row
entry_send = search crossing depth 60 fits 20000

entry_sync : IsSync entry.the_row
entry_sync = search crossing depth 60 fits 20000

shared_entry : IsSend (shared.the_row entry.the_row)
shared_entry = shared_crosses.the_send entry.the_row entry_send entry_sync

brief_send : IsSend brief.the_row
brief_send = search (shared_entry, note_crosses.the_field_send, sendable) depth 60 fits 20000

record_send : IsSend recorded.the_row
record_send =
    search (brief_send, vec_crosses.the_send, tally_crosses.the_field_send, crosses, sendable) depth
    60 fits 20000

shared_linked : IsSend (shared.the_row linked.the_row)
shared_linked = shared_crosses.the_send linked.the_row linked_send linked_sync

item_send : IsSend item.the_row
item_send =
    declared_send item.the_type (search (shared_linked, as_row_send, sendable) depth 60 fits 20000)

cache_send : IsSend cache.the_row
cache_send =
    search (
      item_send,
      arrayvec_crosses.the_send,
      option_crosses.the_send,
      option_crosses.the_field_send,
      crosses,
      sendable,
    ) depth 60 fits 20000

book_send : IsSend book.the_row
book_send = book_crosses.the_send

store_send : IsSend store.the_row
store_send = search (record_send, snap_send, book_send, cache_send, sendable) depth 20 fits 4000

held_send : IsSend held.the_row
held_send = search (store_send, box_crosses.the_send, crosses, sendable) depth 60 fits 20000

pub hub_sync : IsSync hub.the_row
hub_sync = search (held_send, lock_crosses.the_sync, sendable) depth 60 fits 20000
