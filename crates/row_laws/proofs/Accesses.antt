-- What accesses depend on.
use Rattle.std.proofs.Common.{◌≡◌, ℕ, zero, suc, ◌+◌, ◌%◌, ◌^◌, ◌<◌, ◌≤◌, refl, ap, ◌∙◌, arith}
use Rattle.machines.specs.Prelude.{GuestValues, Effect, address_of, loads, stores, updates, word_reversed, half_reversed, half_extended, load_row, load_update_row, load_indexed_row, load_indexed_update_row, store_row, store_update_row, store_indexed_row, store_indexed_update_row, store_big, loaded_by, loaded_in, store_registers, LoadOp, Lwz, Lbz, Lhz, Lha, StoreOp, Stw, Stb, Sth, LoadUpdateOp, Lwzu, Lbzu, Lhzu, Lhau, StoreUpdateOp, Stwu, Stbu, Sthu, LoadIndexedOp, Lwzx, Lbzx, Lhzx, Lhax, Lwbrx, Lhbrx, StoreIndexedOp, Stwx, Stbx, Sthx, Stwbrx, Sthbrx, LoadIndexedUpdateOp, Lwzux, Lbzux, Lhzux, Lhaux, StoreIndexedUpdateOp, Stwux, Stbux, Sthux}
use Rattle.ppc_isa.specs.SumRows.{base}
use Rattle.row_laws.proofs.Numbers.{both}

-- the same access of two effects
pub record SameAccess (e f : Effect) : Type 0 where
  pub address : e.address ≡ f.address
  pub stored : e.stored ≡ f.stored
  pub width : e.width ≡ f.width
  pub kind : e.kind ≡ f.kind

pub loaded_same : (e f : Effect) (bytes : ℕ → ℕ) → SameAccess e f → loaded_in e bytes ≡ loaded_in f bytes
loaded_same e f bytes s = ap (λ k. loaded_by k e.width e.address bytes) s.kind ∙ both (λ n a. loaded_by f.kind n a bytes) s.width s.address

pub stored_same : (e f : Effect) (bytes : ℕ → ℕ) → SameAccess e f → store_big e.width e.address e.stored bytes ≡ store_big f.width f.address f.stored bytes
stored_same e f bytes s = both (λ n a. store_big n a e.stored bytes) s.width s.address ∙ ap (λ v. store_big f.width f.address v bytes) s.stored

pub address_same : (x y : ℕ) (v w : GuestValues) → x ≡ y → v.b ≡ w.b → address_of x v ≡ address_of y w
address_same x y v w e b = both (λ m n. (m + n) % 2 ^ 32) e b

a_load : (width x y r r' : ℕ) (v w : GuestValues) → x ≡ y → v.b ≡ w.b → SameAccess (loads width x r v) (loads width y r' w)
a_load width x y r r' v w e b = record { address = address_same x y v w e b; stored = refl; width = refl; kind = refl }

a_store : (width x y n m : ℕ) (v w : GuestValues) → x ≡ y → v.b ≡ w.b → n ≡ m → SameAccess (stores width x n v) (stores width y m w)
a_store width x y n m v w e b s = record { address = address_same x y v w e b; stored = s; width = refl; kind = refl }

pub load_access : (op : LoadOp) (a : ℕ) (v w : GuestValues) → base a v ≡ base a w → v.b ≡ w.b → SameAccess (load_row op a v) (load_row op a w)
load_access Lwz a v w e b = a_load 4 (base a v) (base a w) v.loaded w.loaded v w e b
load_access Lbz a v w e b = a_load 1 (base a v) (base a w) v.loaded w.loaded v w e b
load_access Lhz a v w e b = a_load 2 (base a v) (base a w) v.loaded w.loaded v w e b
load_access Lha a v w e b = a_load 2 (base a v) (base a w) (half_extended v.loaded) (half_extended w.loaded) v w e b

pub load_number : (op : LoadOp) (a : ℕ) (v w : GuestValues) → v.loaded ≡ w.loaded → (load_row op a v).d ≡ (load_row op a w).d
load_number Lwz a v w l = l
load_number Lbz a v w l = l
load_number Lhz a v w l = l
load_number Lha a v w l = ap (λ x. half_extended x) l

-- with update; the address doesn't depend on the number
update_access : (e f : Effect) → SameAccess e f → SameAccess (updates e) (updates f)
update_access e f s = record { address = s.address; stored = s.stored; width = s.width; kind = s.kind }

pub load_update_access : (op : LoadUpdateOp) (v w : GuestValues) → v.a ≡ w.a → v.b ≡ w.b → SameAccess (load_update_row op v) (load_update_row op w)
load_update_access Lwzu v w e b = update_access (loads 4 v.a v.loaded v) (loads 4 w.a w.loaded w) (a_load 4 v.a w.a v.loaded w.loaded v w e b)
load_update_access Lbzu v w e b = update_access (loads 1 v.a v.loaded v) (loads 1 w.a w.loaded w) (a_load 1 v.a w.a v.loaded w.loaded v w e b)
load_update_access Lhzu v w e b = update_access (loads 2 v.a v.loaded v) (loads 2 w.a w.loaded w) (a_load 2 v.a w.a v.loaded w.loaded v w e b)
load_update_access Lhau v w e b = update_access (loads 2 v.a (half_extended v.loaded) v) (loads 2 w.a (half_extended w.loaded) w) (a_load 2 v.a w.a (half_extended v.loaded) (half_extended w.loaded) v w e b)

pub load_update_number : (op : LoadUpdateOp) (v w : GuestValues) → v.loaded ≡ w.loaded → (load_update_row op v).d ≡ (load_update_row op w).d
load_update_number Lwzu v w l = l
load_update_number Lbzu v w l = l
load_update_number Lhzu v w l = l
load_update_number Lhau v w l = ap (λ x. half_extended x) l

pub load_update_base : (op : LoadUpdateOp) (v w : GuestValues) → v.a ≡ w.a → v.b ≡ w.b → (load_update_row op v).a ≡ (load_update_row op w).a
load_update_base Lwzu v w e b = address_same v.a w.a v w e b
load_update_base Lbzu v w e b = address_same v.a w.a v w e b
load_update_base Lhzu v w e b = address_same v.a w.a v w e b
load_update_base Lhau v w e b = address_same v.a w.a v w e b

pub load_indexed_access : (op : LoadIndexedOp) (a : ℕ) (v w : GuestValues) → base a v ≡ base a w → v.b ≡ w.b → SameAccess (load_indexed_row op a v) (load_indexed_row op a w)
load_indexed_access Lwzx a v w e b = a_load 4 (base a v) (base a w) v.loaded w.loaded v w e b
load_indexed_access Lbzx a v w e b = a_load 1 (base a v) (base a w) v.loaded w.loaded v w e b
load_indexed_access Lhzx a v w e b = a_load 2 (base a v) (base a w) v.loaded w.loaded v w e b
load_indexed_access Lhax a v w e b = a_load 2 (base a v) (base a w) (half_extended v.loaded) (half_extended w.loaded) v w e b
load_indexed_access Lwbrx a v w e b = a_load 4 (base a v) (base a w) (word_reversed v.loaded) (word_reversed w.loaded) v w e b
load_indexed_access Lhbrx a v w e b = a_load 2 (base a v) (base a w) (half_reversed v.loaded) (half_reversed w.loaded) v w e b

pub load_indexed_number : (op : LoadIndexedOp) (a : ℕ) (v w : GuestValues) → v.loaded ≡ w.loaded → (load_indexed_row op a v).d ≡ (load_indexed_row op a w).d
load_indexed_number Lwzx a v w l = l
load_indexed_number Lbzx a v w l = l
load_indexed_number Lhzx a v w l = l
load_indexed_number Lhax a v w l = ap (λ x. half_extended x) l
load_indexed_number Lwbrx a v w l = ap (λ x. word_reversed x) l
load_indexed_number Lhbrx a v w l = ap (λ x. half_reversed x) l

pub load_indexed_update_access : (op : LoadIndexedUpdateOp) (v w : GuestValues) → v.a ≡ w.a → v.b ≡ w.b → SameAccess (load_indexed_update_row op v) (load_indexed_update_row op w)
load_indexed_update_access Lwzux v w e b = update_access (loads 4 v.a v.loaded v) (loads 4 w.a w.loaded w) (a_load 4 v.a w.a v.loaded w.loaded v w e b)
load_indexed_update_access Lbzux v w e b = update_access (loads 1 v.a v.loaded v) (loads 1 w.a w.loaded w) (a_load 1 v.a w.a v.loaded w.loaded v w e b)
load_indexed_update_access Lhzux v w e b = update_access (loads 2 v.a v.loaded v) (loads 2 w.a w.loaded w) (a_load 2 v.a w.a v.loaded w.loaded v w e b)
load_indexed_update_access Lhaux v w e b = update_access (loads 2 v.a (half_extended v.loaded) v) (loads 2 w.a (half_extended w.loaded) w) (a_load 2 v.a w.a (half_extended v.loaded) (half_extended w.loaded) v w e b)

pub load_indexed_update_number : (op : LoadIndexedUpdateOp) (v w : GuestValues) → v.loaded ≡ w.loaded → (load_indexed_update_row op v).d ≡ (load_indexed_update_row op w).d
load_indexed_update_number Lwzux v w l = l
load_indexed_update_number Lbzux v w l = l
load_indexed_update_number Lhzux v w l = l
load_indexed_update_number Lhaux v w l = ap (λ x. half_extended x) l

pub load_indexed_update_base : (op : LoadIndexedUpdateOp) (v w : GuestValues) → v.a ≡ w.a → v.b ≡ w.b → (load_indexed_update_row op v).a ≡ (load_indexed_update_row op w).a
load_indexed_update_base Lwzux v w e b = address_same v.a w.a v w e b
load_indexed_update_base Lbzux v w e b = address_same v.a w.a v w e b
load_indexed_update_base Lhzux v w e b = address_same v.a w.a v w e b
load_indexed_update_base Lhaux v w e b = address_same v.a w.a v w e b

pub store_access : (op : StoreOp) (a : ℕ) (v w : GuestValues) → base a v ≡ base a w → v.b ≡ w.b → v.s ≡ w.s → SameAccess (store_row op a v) (store_row op a w)
store_access Stw a v w e b s = a_store 4 (base a v) (base a w) v.s w.s v w e b s
store_access Stb a v w e b s = a_store 1 (base a v) (base a w) (v.s % 2 ^ 8) (w.s % 2 ^ 8) v w e b (ap (λ x. x % 2 ^ 8) s)
store_access Sth a v w e b s = a_store 2 (base a v) (base a w) (v.s % 2 ^ 16) (w.s % 2 ^ 16) v w e b (ap (λ x. x % 2 ^ 16) s)

pub store_update_access : (op : StoreUpdateOp) (v w : GuestValues) → v.a ≡ w.a → v.b ≡ w.b → v.s ≡ w.s → SameAccess (store_update_row op v) (store_update_row op w)
store_update_access Stwu v w e b s = update_access (stores 4 v.a v.s v) (stores 4 w.a w.s w) (a_store 4 v.a w.a v.s w.s v w e b s)
store_update_access Stbu v w e b s = update_access (stores 1 v.a (v.s % 2 ^ 8) v) (stores 1 w.a (w.s % 2 ^ 8) w) (a_store 1 v.a w.a (v.s % 2 ^ 8) (w.s % 2 ^ 8) v w e b (ap (λ x. x % 2 ^ 8) s))
store_update_access Sthu v w e b s = update_access (stores 2 v.a (v.s % 2 ^ 16) v) (stores 2 w.a (w.s % 2 ^ 16) w) (a_store 2 v.a w.a (v.s % 2 ^ 16) (w.s % 2 ^ 16) v w e b (ap (λ x. x % 2 ^ 16) s))

pub store_update_base : (op : StoreUpdateOp) (v w : GuestValues) → v.a ≡ w.a → v.b ≡ w.b → (store_update_row op v).a ≡ (store_update_row op w).a
store_update_base Stwu v w e b = address_same v.a w.a v w e b
store_update_base Stbu v w e b = address_same v.a w.a v w e b
store_update_base Sthu v w e b = address_same v.a w.a v w e b

pub store_indexed_access : (op : StoreIndexedOp) (a : ℕ) (v w : GuestValues) → base a v ≡ base a w → v.b ≡ w.b → v.s ≡ w.s → SameAccess (store_indexed_row op a v) (store_indexed_row op a w)
store_indexed_access Stwx a v w e b s = a_store 4 (base a v) (base a w) v.s w.s v w e b s
store_indexed_access Stbx a v w e b s = a_store 1 (base a v) (base a w) (v.s % 2 ^ 8) (w.s % 2 ^ 8) v w e b (ap (λ x. x % 2 ^ 8) s)
store_indexed_access Sthx a v w e b s = a_store 2 (base a v) (base a w) (v.s % 2 ^ 16) (w.s % 2 ^ 16) v w e b (ap (λ x. x % 2 ^ 16) s)
store_indexed_access Stwbrx a v w e b s = a_store 4 (base a v) (base a w) (word_reversed v.s) (word_reversed w.s) v w e b (ap (λ x. word_reversed x) s)
store_indexed_access Sthbrx a v w e b s = a_store 2 (base a v) (base a w) (half_reversed v.s) (half_reversed w.s) v w e b (ap (λ x. half_reversed x) s)

pub store_indexed_update_access : (op : StoreIndexedUpdateOp) (v w : GuestValues) → v.a ≡ w.a → v.b ≡ w.b → v.s ≡ w.s → SameAccess (store_indexed_update_row op v) (store_indexed_update_row op w)
store_indexed_update_access Stwux v w e b s = update_access (stores 4 v.a v.s v) (stores 4 w.a w.s w) (a_store 4 v.a w.a v.s w.s v w e b s)
store_indexed_update_access Stbux v w e b s = update_access (stores 1 v.a (v.s % 2 ^ 8) v) (stores 1 w.a (w.s % 2 ^ 8) w) (a_store 1 v.a w.a (v.s % 2 ^ 8) (w.s % 2 ^ 8) v w e b (ap (λ x. x % 2 ^ 8) s))
store_indexed_update_access Sthux v w e b s = update_access (stores 2 v.a (v.s % 2 ^ 16) v) (stores 2 w.a (w.s % 2 ^ 16) w) (a_store 2 v.a w.a (v.s % 2 ^ 16) (w.s % 2 ^ 16) v w e b (ap (λ x. x % 2 ^ 16) s))

pub store_indexed_update_base : (op : StoreIndexedUpdateOp) (v w : GuestValues) → v.a ≡ w.a → v.b ≡ w.b → (store_indexed_update_row op v).a ≡ (store_indexed_update_row op w).a
store_indexed_update_base Stwux v w e b = address_same v.a w.a v w e b
store_indexed_update_base Stbux v w e b = address_same v.a w.a v w e b
store_indexed_update_base Sthux v w e b = address_same v.a w.a v w e b

-- stmw stores the registers that it reads
pub registers_same : (n s at : ℕ) (p q bytes : ℕ → ℕ) → ((x : ℕ) → s ≤ x → x < s + n → p x ≡ q x) → store_registers n s at p bytes ≡ store_registers n s at q bytes
unfolding store_registers
registers_same zero s at p q bytes h = refl
registers_same (suc n) s at p q bytes h =
    registers_same n (s + 1) (at + 4) p q (store_big 4 at (p s) bytes) (λ x le lt. h x (omega arith) (omega arith))
    ∙ ap (λ v. store_registers n (s + 1) (at + 4) q (store_big 4 at v bytes)) (h s (omega arith) (omega arith))
