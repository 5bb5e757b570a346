-- What the seats of a table know, and what is counted over all of them.
use Rattle.std.specs.Prelude.{ℕ, Bool, true, false, not, ◌&&◌, ◌==◌, nat_lt, if◌then◌else◌, List, [], ◌∷◌, ◌++◌, map, sum_by, count_by}
use Rattle.std.specs.List.{range_with_len}
use Rattle.std.specs.Int.{bit_at}
use Rattle.tm_irq.specs.declared.views.Raise.{Raise}
use Rattle.tm_irq.specs.declared.views.Store.{Store}
use Rattle.tm_irq.specs.declared.views.Glance.{Glance}
use Rattle.tm_irq.specs.declared.views.Deeds.{Deeds}
use Rattle.tm_irq.specs.declared.views.View.{View}

-- the raise found the line's bit clear, with this number of takes in the word
abbrev pub is_fresh : ℕ → ℕ → Raise → Bool
is_fresh line number r = (r.line == line) && (r.number == number) && not r.joined

-- the raise found the line's bit set, with this number of takes in the word
abbrev pub is_joined : ℕ → ℕ → Raise → Bool
is_joined line number r = (r.line == line) && (r.number == number) && r.joined

-- this value was stored in this port
abbrev pub is_store : ℕ → ℕ → Store → Bool
is_store port value s = (s.port == port) && (s.value == value)

-- how many fresh raises of the line with this number a device made
abbrev pub fresh : ℕ → ℕ → Deeds → ℕ
fresh line number d = count_by (is_fresh line number) d.raises

-- how many joined raises of the line with this number
abbrev pub joined : ℕ → ℕ → Deeds → ℕ
joined line number d = count_by (is_joined line number) d.raises

-- how many raises have a number above this one
abbrev pub late : ℕ → Deeds → ℕ
late number d = count_by (λ r. nat_lt number r.number) d.raises

-- how many stores of this value in this port
abbrev pub stored : ℕ → ℕ → Deeds → ℕ
stored port value d = count_by (is_store port value) d.stores

-- the glance found the line, with this number of takes in the word
abbrev pub is_seen : ℕ → ℕ → Glance → Bool
is_seen line number g = (g.number == number) && (bit_at g.mask line == 1)

-- how many glances of a device found the line with this number
abbrev pub seen : ℕ → ℕ → Deeds → ℕ
seen line number d = count_by (is_seen line number) d.glances

-- the raise has this number, and its line isn't in the mask
abbrev pub is_missed : ℕ → ℕ → Raise → Bool
is_missed mask number r = (r.number == number) && not (bit_at mask r.line == 1)

-- how many of the raises before it have the glance's number, and a line that it didn't find
abbrev pub missed_by : Glance → ℕ
missed_by g = count_by (is_missed g.mask g.number) g.before

-- and over all glances of a device
abbrev pub missed : Deeds → ℕ
missed d = sum_by missed_by d.glances

-- 1 where these are the deeds of this device, else 0
abbrev pub of_device : ℕ → Deeds → ℕ
of_device device d = if d.device == device then 1 else 0

-- a number for each device's deeds, added up over those that stand in a view
abbrev pub in_view : (Deeds → ℕ) → View → ℕ
in_view f v = sum_by f v.deeds

-- and over all views
abbrev pub in_all : (Deeds → ℕ) → List View → ℕ
in_all f views = sum_by (in_view f) views

-- a raise is added to the deeds of the view's device
abbrev pub with_raise : Raise → View → View
with_raise r v = record v { deeds = map (λ (d : Deeds). record d { raises = d.raises ++ r ∷ [] }) v.deeds }

-- a store is added
abbrev pub with_store : Store → View → View
with_store s v = record v { deeds = map (λ (d : Deeds). record d { stores = d.stores ++ s ∷ [] }) v.deeds }

-- a glance, after what a device had raised
abbrev pub glance_of : ℕ → ℕ → Deeds → Glance
glance_of mask number d = record { mask = mask; number = number; before = d.raises }

-- a glance is added
abbrev pub with_glance : ℕ → ℕ → View → View
with_glance mask number v = record v { deeds = map (λ (d : Deeds). record d { glances = d.glances ++ glance_of mask number d ∷ [] }) v.deeds }

-- the deeds of a device that did nothing yet
abbrev pub no_deeds : ℕ → Deeds
no_deeds device = record { device = device; raises = []; stores = []; glances = [] }

-- what a device's seat knows
abbrev pub device_view : List Deeds → View
device_view deeds = record { kernel = false; devices = 0; takes = []; latches = []; latching = []; deeds = deeds }

-- what a seat knows that another took in: nothing
abbrev pub spent_view : View
spent_view = device_view []

-- what the kernel's seat knows before any take
abbrev pub kernel_view : ℕ → List Deeds → View
kernel_view devices home = record { kernel = true; devices = devices; takes = []; latches = []; latching = []; deeds = home }

-- the devices of a new table
abbrev pub homes : ℕ → List Deeds
homes devices = map no_deeds (range_with_len 0 devices)

-- the deeds of the first device, and those of the others
abbrev pub first_deeds : List Deeds → List Deeds
first_deeds [] = []
first_deeds (d ∷ ds) = d ∷ []

abbrev pub other_deeds : List Deeds → List Deeds
other_deeds [] = []
other_deeds (d ∷ ds) = ds

-- a split: the first device leaves, and the new seat has it
abbrev pub without_first : View → View
without_first v = record v { deeds = other_deeds v.deeds }

abbrev pub only_first : View → View
only_first v = device_view (first_deeds v.deeds)

-- a join: a device comes home with its deeds
abbrev pub with_home : View → View → View
with_home v w = record v { deeds = w.deeds ++ v.deeds }
