-- What holds over several calls of a desk.
use Rattle.std.proofs.Common.{ℕ, ◌≤◌, inl, inr, ◌∙◌, arith}
use Rattle.rt_desk.specs.Desk.{Outside, Rose, OnlyFetches, OnlySays}

-- a count that rose from where it had come to rose from the start
pub rose_since : (start mid end : ℕ) → start ≤ mid → Rose mid end → Rose start end
rose_since start mid end le (inl more) = inl (omega arith)
rose_since start mid end le (inr stands) = inr stands

-- what stays over fetches behind fetches
pub fetches_behind : (old mid new : Outside) → OnlyFetches old mid → OnlyFetches mid new → OnlyFetches old new
fetches_behind old mid new first second = record {
  files = second.files ∙ first.files;
  said = second.said ∙ first.said;
  fetch_faults = omega (arith, first.fetch_faults, second.fetch_faults);
  store_faults = second.store_faults ∙ first.store_faults;
  say_faults = second.say_faults ∙ first.say_faults;
}

-- what stays over says behind says
pub says_behind : (old mid new : Outside) → OnlySays old mid → OnlySays mid new → OnlySays old new
says_behind old mid new first second = record {
  files = second.files ∙ first.files;
  fetch_faults = second.fetch_faults ∙ first.fetch_faults;
  store_faults = second.store_faults ∙ first.store_faults;
  say_faults = omega (arith, first.say_faults, second.say_faults);
}
