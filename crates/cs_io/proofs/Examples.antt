-- The definitions at values that show their edges.
use Rattle.std.proofs.Common.{◌≡◌, ◌-◌, [], ◌∷◌, None, Some, true, false, codes, refl}
use Rattle.cs_io.specs.Desk.{file_named}
use Rattle.cs_io.specs.Failing.{fails_at}
use Rattle.cs_io.specs.Faults.{greatest, next_count}
use Rattle.cs_io.specs.MemorySink.{sure_room}

-- of two files of one name the first counts
first_of_a_name : file_named ((codes "a", codes "one") ∷ (codes "a", codes "two") ∷ []) (codes "a") ≡ Some (codes "one")
first_of_a_name = refl

no_file_named_that_name : file_named ((codes "a", codes "one") ∷ []) (codes "b") ≡ None
no_file_named_that_name = refl

-- a count rises, and stands still at the greatest u64
count_rises : next_count (greatest - 1) ≡ greatest
count_rises = refl

count_stands_still : next_count greatest ≡ greatest
count_stands_still = refl

-- calls are numbered from 0
first_call_fails : fails_at (0 ∷ 2 ∷ []) 0 ≡ true
first_call_fails = refl

second_call_does_not : fails_at (0 ∷ 2 ∷ []) 1 ≡ false
second_call_does_not = refl

-- the free capacity, unless a call is made to fail
room_is_free_capacity : sure_room (record { written = codes "abc"; capacity = 5; step = 1; failing = []; calls = 0; faults = 0 }) ≡ 2
room_is_free_capacity = refl

no_room_is_sure : sure_room (record { written = codes "abc"; capacity = 5; step = 1; failing = 9 ∷ []; calls = 0; faults = 0 }) ≡ 0
no_room_is_sure = refl
