-- What inner functions promise; no promise of a public function names any of it.
pub mod Slots
