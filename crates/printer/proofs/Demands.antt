-- The demands: each statement of specs/Demands, under its name in small letters, from the file that proves it.
-- Demand 1.
pub use Rattle.printer.proofs.Refusing.{bad_state, bad_state_elsewhere, bad_byte, short_buffer, short_for_byte, refused_stays}
-- Demand 2.
pub use Rattle.printer.proofs.Accepting.{acknowledged_exactly, byte_as_whole, exact_effect, effect_kept, room_enough}
pub use Rattle.printer.proofs.Bursts.{burst_as_whole}
pub use Rattle.printer.proofs.Setting.{calls_set}
pub use Rattle.printer.proofs.Building.{built_read_as_built}
pub use Rattle.printer.proofs.Editing.{update_numbered}
pub use Rattle.printer.proofs.Placing.{update_tells_where, frame_tells_where, nowhere_else}
pub use Rattle.printer.proofs.Storing.{store_stays, stored_last, shown_as_selected}
-- Demand 3.
pub use Rattle.printer.proofs.Reaching.{reached_valid, messages_held, nothing_held, printed_as_accepted}
pub use Rattle.printer.proofs.Editing.{edits_only_addressed, updates_only_fields}
pub use Rattle.printer.proofs.Printing.{print_refused_exactly, strips_printed}
