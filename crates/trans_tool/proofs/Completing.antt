-- A run that nothing hinders has the cause that the file's bytes are due to have, or memory ran out.
use Rattle.std.proofs.Common.{◌≡◌, ◌≤◌, ◌⊎◌, inl, inr, ℕ, List, [], ◌∷◌, length, codes, Some, refl, sym, ap, ◌∙◌, subst, arith}
use Rattle.machines.specs.Prelude.{PowerPc}
use Rattle.elf_load.specs.Prelude.{IsProgramOf, IsFirstFault}
use Rattle.outside.specs.Causes.{Rose}
use Rattle.trans_tool.specs.Prelude.{IsLonger, IsTold, Outside, Stream, output_in, Ends, IsInput, kind_of, EndsListing, IsFile, IsRunLine, IsDue, IsDueListing, IsUnhindered, IsUnhinderedListing, Comes, Runs, Cause, Done, GuestExit, Usage, BadElf, TooLong, FileRead, FileWrite, OutFault, ErrFault, Memory, StepsSpent, Trap, Illegal, DivideFault}
use Rattle.runner.specs.Prelude.{Streams}
use Rattle.trans_tool.specs.declared.cause.Cause.TheVariants as cause

pub some_same : (a b : List ℕ) → Some a ≡ Some b → a ≡ b
some_same a b e = cc

same_names : (words : List (List ℕ)) (a b c d : List ℕ) → words ≡ codes "translate" ∷ a ∷ b ∷ [] → words ≡ codes "translate" ∷ c ∷ d ∷ [] → (c ≡ a) × (d ≡ b)
same_names words a b c d e f = let g : codes "translate" ∷ c ∷ d ∷ [] ≡ codes "translate" ∷ a ∷ b ∷ [] = sym f ∙ e in (cc, cc)

same_file : (words : List (List ℕ)) (a b : List ℕ) → words ≡ codes "list" ∷ a ∷ [] → words ≡ codes "list" ∷ b ∷ [] → b ≡ a
same_file words a b e f = let g : codes "list" ∷ b ∷ [] ≡ codes "list" ∷ a ∷ [] = sym f ∙ e in cc

no_both : (words : List (List ℕ)) (a b file : List ℕ) → words ≡ codes "translate" ∷ a ∷ b ∷ [] → words ≡ codes "list" ∷ file ∷ [] → ⊥
no_both words a b file e f = let g : 3 ≡ 2 = ap length (sym e ∙ f) in omega (arith, g)

abbrev pub first_of : List (List ℕ) → List ℕ
first_of [] = []
first_of (w ∷ ws) = w

other_word : codes "translate" ≡ codes "run" → ⊥
other_word e = let n : 9 ≡ 3 = ap length e in omega (arith, n)

short_word : codes "list" ≡ codes "run" → ⊥
short_word e = let n : 4 ≡ 3 = ap length e in omega (arith, n)

-- a run is named by another word
pub no_run : (words : List (List ℕ)) (a b file : List ℕ) (steps : ℕ) → words ≡ codes "translate" ∷ a ∷ b ∷ [] → IsRunLine words file steps → ⊥
no_run words a b file steps e (inl f) = let g : codes "translate" ≡ codes "run" = ap first_of (sym e ∙ f.0) in other_word g
no_run words a b file steps e (inr (inl f)) = let g : codes "translate" ≡ codes "run" = ap first_of (sym e ∙ f.0) in other_word g
no_run words a b file steps e (inr (inr f)) = let g : codes "translate" ≡ codes "run" = ap first_of (sym e ∙ f.0) in other_word g

pub no_list : (words : List (List ℕ)) (a file : List ℕ) (steps : ℕ) → words ≡ codes "list" ∷ a ∷ [] → IsRunLine words file steps → ⊥
no_list words a file steps e (inl f) = let g : codes "list" ≡ codes "run" = ap first_of (sym e ∙ f.0) in short_word g
no_list words a file steps e (inr (inl f)) = let g : codes "list" ≡ codes "run" = ap first_of (sym e ∙ f.0) in short_word g
no_list words a file steps e (inr (inr f)) = let g : codes "list" ≡ codes "run" = ap first_of (sym e ∙ f.0) in short_word g

pub same_told : (P : Cause → Type 0) (cause told : Cause) → told ≡ cause → P cause ⊎ (cause ≡ Memory) → P told ⊎ (told ≡ Memory)
same_told P cause told is (inl due) = inl (subst P (sym is) due)
same_told P cause told is (inr none) = inr (is ∙ none)

-- what is told of a cause that is due, or of want of memory
told_so : (IsDueOne : Cause → Type 0) (ended new : Streams) (cause told : Cause) → IsDueOne cause ⊎ (cause ≡ Memory) → IsTold cause told ended.errors new.errors ended.errors_faults new.errors_faults → (Rose ended.errors_faults new.errors_faults → ⊥) → IsDueOne told ⊎ (told ≡ Memory)
told_so IsDueOne ended new cause told is (inl line) calm = same_told IsDueOne cause told line.1 is
told_so IsDueOne ended new cause told is (inr (inl line)) calm = same_told IsDueOne cause told line.1 is
told_so IsDueOne ended new cause told is (inr (inr fault)) calm = absurd (calm fault.2)

module _ (bytes : List ℕ) where
  module _ (words : List (List ℕ)) (o : Outside) (old new : Streams) (from to : List ℕ) (free : IsUnhindered words o old new from to bytes) where
    abbrev IsOr : Cause → Type 0
    IsOr cause = IsDue bytes cause ⊎ (cause ≡ Memory)

    input_is : (held : List ℕ) → IsInput o from held → held ≡ bytes
    input_is held x = some_same held bytes (sym (x.held free.telling) ∙ free.input)

    ended : (cause : Cause) → Ends o from to cause → IsOr cause
    ended Memory h = inr refl
    ended Done h =
        let s = h.source in
        let same = input_is s.bytes s.input in
        inl (subst (λ (b : List ℕ). length b ≤ 0x1000000) same s.input.within, (s.program, subst (λ (b : List ℕ). IsProgramOf PowerPc b s.program) same s.loads))
    ended (TooLong file) h =
        let long : IsLonger 0x1000000 (Some bytes) = subst (IsLonger 0x1000000) free.input (h.1 free.telling) in
        inl (h.0, long)
    ended (BadElf rule offset) h =
        let x = h.0 in
        let same = input_is x.bytes x.input in
        inl (subst (λ (b : List ℕ). length b ≤ 0x1000000) same x.input.within, subst (λ (b : List ℕ). IsFirstFault PowerPc b rule offset) same x.fault)
    ended (FileRead file) h = absurd (free.read h.1)
    ended (FileWrite file) h = absurd (free.written h.1)
    ended Usage h = absurd h
    ended OutFault h = absurd h
    ended ErrFault h = absurd h
    ended (GuestExit number) h = absurd h
    ended StepsSpent h = absurd h
    ended Trap h = absurd h
    ended Illegal h = absurd h
    ended cause.Outside h = absurd h
    ended DivideFault h = absurd h

    by_command : (after : Streams) (cause : Cause) → Comes words o old after cause → IsOr cause × (after.errors_faults ≡ old.errors_faults)
    by_command after cause (inl usage) = absurd (usage.unspelled.no_translation from to free.spelled)
    by_command after cause (inr (inl h)) =
        let names = same_names words from to h.from h.to free.spelled.words_are h.spelled.words_are in
        (ended cause (subst (λ (t : List ℕ). Ends o from t cause) names.1 (subst (λ (f : List ℕ). Ends o f h.to cause) names.0 h.ends)), h.streams.errors.faults)
    by_command after cause (inr (inr (inl h))) = absurd (no_both words from to h.file free.spelled.words_are h.spelled.words_are)
    by_command after cause (inr (inr (inr h))) = absurd (no_run words from to h.file h.steps free.spelled.words_are h.spelled.words_are)

    pub translation_due : (told : Cause) → Runs words o old new told → IsOr told
    translation_due told run =
        let by = by_command run.ended run.cause run.comes in
        told_so (IsDue bytes) run.ended new run.cause told by.0 run.line (λ rose. free.errors (subst (λ (n : ℕ). Rose n new.errors_faults) by.1 rose))

  module _ (words : List (List ℕ)) (o : Outside) (old new : Streams) (file : List ℕ) (free : IsUnhinderedListing words o old new file bytes) where
    abbrev IsOrListed : Cause → Type 0
    IsOrListed cause = IsDueListing bytes cause ⊎ (cause ≡ Memory)

    file_is : (held : List ℕ) → IsFile o file held → held ≡ bytes
    file_is held x = some_same held bytes (sym (x.held free.telling) ∙ free.input)

    listed : (out : Stream) (cause : Cause) → EndsListing o out file cause → (Rose out.faults out.faults' → ⊥) → IsOrListed cause
    listed out Memory h calm = inr refl
    listed out Done h calm =
        let x = h.1 in
        let same = file_is x.bytes x.held in
        inl (subst (λ (b : List ℕ). length b ≤ 0x10000000) same x.held.within, (h.0, subst (λ (b : List ℕ). IsProgramOf (kind_of b) b h.0) same x.loads))
    listed out (TooLong number) h calm =
        let long : IsLonger 0x10000000 (Some bytes) = subst (IsLonger 0x10000000) free.input (h.1 free.telling) in
        inl (h.0, long)
    listed out (BadElf rule offset) h calm =
        let x = h.0 in
        let same = file_is x.bytes x.held in
        inl (subst (λ (b : List ℕ). length b ≤ 0x10000000) same x.held.within, subst (λ (b : List ℕ). IsFirstFault (kind_of b) b rule offset) same x.fault)
    listed out (FileRead number) h calm = absurd (free.read h.1)
    listed out OutFault h calm = absurd (calm h.1)
    listed out Usage h calm = absurd h
    listed out (FileWrite number) h calm = absurd h
    listed out ErrFault h calm = absurd h
    listed out (GuestExit number) h calm = absurd h
    listed out StepsSpent h calm = absurd h
    listed out Trap h calm = absurd h
    listed out Illegal h calm = absurd h
    listed out cause.Outside h calm = absurd h
    listed out DivideFault h calm = absurd h

    by_listing : (after : Streams) (cause : Cause) → Comes words o old after cause → (Rose old.output_faults after.output_faults → ⊥) → IsOrListed cause × (after.errors_faults ≡ old.errors_faults)
    by_listing after cause (inl usage) calm = absurd (usage.unspelled.no_listing file free.spelled)
    by_listing after cause (inr (inl h)) calm = absurd (no_both words h.from h.to file h.spelled.words_are free.spelled.words_are)
    by_listing after cause (inr (inr (inl h))) calm =
        let same = same_file words file h.file free.spelled.words_are h.spelled.words_are in
        (listed (output_in old after) cause (subst (λ (f : List ℕ). EndsListing o (output_in old after) f cause) same h.ends) calm, h.errors.faults)
    by_listing after cause (inr (inr (inr h))) calm = absurd (no_list words file h.file h.steps free.spelled.words_are h.spelled.words_are)

    pub listing_due : (told : Cause) → Runs words o old new told → IsOrListed told
    listing_due told run =
        let by = by_listing run.ended run.cause run.comes (λ rose. free.output (subst (λ (n : ℕ). Rose old.output_faults n) (sym run.output.faults) rose)) in
        told_so (IsDueListing bytes) run.ended new run.cause told by.0 run.line (λ rose. free.errors (subst (λ (n : ℕ). Rose n new.errors_faults) by.1 rose))
