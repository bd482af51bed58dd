-- If the log is even, each send came to each edge of its pin once.
use Rattle.std.proofs.Common.{ℕ, zero, suc, ◌+◌, ◌<◌, ◌≤◌, ◌≡◌, ◌≢◌, ◌==◌, ◌&&◌, ◌∙◌, Bool, true, false, cond, List, [], ◌∷◌, refl, sym, ap, inl, inr, arith}
use Rattle.std.specs.Prelude.{count_by, map}
use Rattle.std.proofs.lemmas.Bool.{cases_eq, eq-eqb, ne_eqb}
use Rattle.std.proofs.lemmas.List.Sums.{sum_by-append, sum_by-cons}
use Rattle.polite_edges.specs.Layout.{Layout, with_key}
use Rattle.polite_edges.specs.Deeds.{Announced, Deed, Finished, Inited, Missed, Received, PinSend, Sent, Stepped}
use Rattle.polite_edges.specs.VertexLog.{Arrival, EachArrived, EachOnceArrived, EdgesApart, EvenAtRest, HasSend, OnceAtRest, arrival, hits, owed, sends_of, times, vertex_log}

abbrev one : Bool → ℕ
one b = cond b 1 0

abbrev hit_count : ℕ → ℕ → (List ℕ → Bool) → List Arrival → ℕ
hit_count e k test xs = count_by (hits e k test) xs

-- whether the arrivals of one send at edge e count
abbrev counts : Layout → ℕ → ℕ → (List ℕ → Bool) → ℕ → List ℕ → Bool
counts g e k test n bytes = n == k && test (with_key (g.local e) bytes)

hit_same : (g : Layout) (e k : ℕ) (test : List ℕ → Bool) (n : ℕ) (bytes : List ℕ) (x : ℕ) → x ≡ e → hits e k test (arrival g n bytes x) ≡ counts g e k test n bytes
hit_same g e k test n bytes x same =
    ap (λ (y : ℕ). (y == e && n == k) && test (with_key (g.local y) bytes)) same ∙ ap (λ q. (q && n == k) && test (with_key (g.local e) bytes)) (eq-eqb e e refl)

hit_other : (g : Layout) (e k : ℕ) (test : List ℕ → Bool) (n : ℕ) (bytes : List ℕ) (x : ℕ) → x ≢ e → hits e k test (arrival g n bytes x) ≡ false
hit_other g e k test n bytes x ne = ap (λ q. (q && n == k) && test (with_key (g.local x) bytes)) (ne_eqb x e ne)

times-cons : (e x : ℕ) (xs : List ℕ) → times e (x ∷ xs) ≡ one (x == e) + times e xs
times-cons e x xs = sum_by-cons (λ y. one (y == e)) x xs

add_one : (b : Bool) (m n : ℕ) → n ≡ 1 + m → one b + cond b m 0 ≡ cond b n 0
add_one true m n h = omega arith
add_one false m n h = omega arith

same_cond : (b : Bool) (m n : ℕ) → m ≡ n → cond b m 0 ≡ cond b n 0
same_cond b m n h = ap (λ x. cond b x 0) h

send_hits : (g : Layout) (e k : ℕ) (test : List ℕ → Bool) (n : ℕ) (bytes : List ℕ) (es : List ℕ) → hit_count e k test (map (arrival g n bytes) es) ≡ cond (counts g e k test n bytes) (times e es) 0
send_hits g e k test n bytes [] = nothing (counts g e k test n bytes) 0 where
  nothing : (b : Bool) (m : ℕ) → m ≡ cond b m m
  nothing true m = refl
  nothing false m = refl
send_hits g e k test n bytes (x ∷ xs) =
    let r = send_hits g e k test n bytes xs in
    let s = sum_by-cons (λ a. one (hits e k test a)) (arrival g n bytes x) (map (arrival g n bytes) xs) in
    let t = times-cons e x xs in
    elim (cases_eq x e) [
      | inl same ↦
          let h = ap one (hit_same g e k test n bytes x same) in
          let o : one (x == e) ≡ 1 = ap one (eq-eqb x e same) in
          let c = add_one (counts g e k test n bytes) (times e xs) (times e (x ∷ xs)) (omega arith) in
          omega arith
      | inr ne ↦
          let h : one (hits e k test (arrival g n bytes x)) ≡ 0 = ap one (hit_other g e k test n bytes x ne) in
          let o : one (x == e) ≡ 0 = ap one (ne_eqb x e ne) in
          let c = same_cond (counts g e k test n bytes) (times e xs) (times e (x ∷ xs)) (omega arith) in
          omega arith
    ]

-- the numbers of a vertex's sends rise
sends_here : (s : PinSend) (older : List Deed) → sends_of s.vertex (Sent s ∷ older) ≡ 1 + sends_of s.vertex older
sends_here s older = ap (λ b. cond b (1 + sends_of s.vertex older) (sends_of s.vertex older)) (eq-eqb s.vertex s.vertex refl)

sends_more : (u : ℕ) (s : PinSend) (older : List Deed) → sends_of u older ≤ sends_of u (Sent s ∷ older)
sends_more u s older = at (s.vertex == u) where
  at : (b : Bool) → sends_of u older ≤ cond b (1 + sends_of u older) (sends_of u older)
  at true = omega arith
  at false = omega arith

below : (g : Layout) (u pin k : ℕ) (bytes : List ℕ) (deeds : List Deed) → HasSend u pin k bytes (vertex_log deeds) → k < sends_of u deeds
below g u pin k bytes [] h = absurd h
below g u pin k bytes (Inited t d x ∷ older) h = below g u pin k bytes older h
below g u pin k bytes (Sent s ∷ older) (inl h) =
    let a = sends_here s older in
    let b = ap (λ v. sends_of v (Sent s ∷ older)) h.0 in
    let c = h.2 in
    omega arith
below g u pin k bytes (Sent s ∷ older) (inr h) = let r = below g u pin k bytes older h in let m = sends_more u s older in omega arith
below g u pin k bytes (Received t d edge l ∷ older) h = below g u pin k bytes older h
below g u pin k bytes (Missed t d edge ∷ older) h = below g u pin k bytes older h
below g u pin k bytes (Stepped t d x ∷ older) h = below g u pin k bytes older h
below g u pin k bytes (Finished t d x ∷ older) h = below g u pin k bytes older h
below g u pin k bytes (Announced v ∷ older) h = below g u pin k bytes older h

-- where a send has another number, or its pin has not this edge, it does not hit
no_hit : (b : Bool) (m : ℕ) → (0 < m → b ≡ false) → cond b m 0 ≡ 0
no_hit true zero h = refl
no_hit true (suc m) h = absurd (let e = h (omega arith) in cc)
no_hit false m h = refl

missed : (g : Layout) (apart : EdgesApart g) (u pin k e : ℕ) (test : List ℕ → Bool) (s : PinSend) (older : List Deed) → 0 < times e (g.edges u pin) → k ≢ sends_of u older
    → cond (counts g e k test (sends_of s.vertex older) s.bytes) (times e (g.edges s.vertex s.pin)) 0 ≡ 0
missed g apart u pin k e test s older some ne =
    no_hit (counts g e k test (sends_of s.vertex older) s.bytes) (times e (g.edges s.vertex s.pin)) (λ here.
    let same = (apart.apart u pin s.vertex s.pin e some here).0 in
    let q : sends_of s.vertex older ≢ k = λ x. ne (sym x ∙ ap (λ v. sends_of v older) (sym same)) in
    ap (λ b. b && test (with_key (g.local e) s.bytes)) (ne_eqb (sends_of s.vertex older) k q))

-- before a vertex's send has a number, nothing of it is owed
none_yet : (g : Layout) (apart : EdgesApart g) (u pin k e : ℕ) (test : List ℕ → Bool) (deeds : List Deed) → 0 < times e (g.edges u pin) → sends_of u deeds ≤ k → hit_count e k test (owed g (vertex_log deeds)) ≡ 0
none_yet g apart u pin k e test [] some le = refl
none_yet g apart u pin k e test (Inited t d x ∷ older) some le = none_yet g apart u pin k e test older some le
none_yet g apart u pin k e test (Sent s ∷ older) some le =
    let m = sends_more u s older in
    let r = none_yet g apart u pin k e test older some (omega arith) in
    let a = sum_by-append (λ x. one (hits e k test x)) (map (arrival g (sends_of s.vertex older) s.bytes) (g.edges s.vertex s.pin)) (owed g (vertex_log older)) in
    let b = send_hits g e k test (sends_of s.vertex older) s.bytes (g.edges s.vertex s.pin) in
    let c = no_hit (counts g e k test (sends_of s.vertex older) s.bytes) (times e (g.edges s.vertex s.pin)) (λ here.
    let same = (apart.apart u pin s.vertex s.pin e some here).0 in
    let x = sends_here s older in
    let y = ap (λ v. sends_of v (Sent s ∷ older)) same in
    let q : sends_of s.vertex older ≢ k = λ z. omega arith in
    ap (λ p. p && test (with_key (g.local e) s.bytes)) (ne_eqb (sends_of s.vertex older) k q)) in
    omega arith
none_yet g apart u pin k e test (Received t d edge l ∷ older) some le = none_yet g apart u pin k e test older some le
none_yet g apart u pin k e test (Missed t d edge ∷ older) some le = none_yet g apart u pin k e test older some le
none_yet g apart u pin k e test (Stepped t d x ∷ older) some le = none_yet g apart u pin k e test older some le
none_yet g apart u pin k e test (Finished t d x ∷ older) some le = none_yet g apart u pin k e test older some le
none_yet g apart u pin k e test (Announced v ∷ older) some le = none_yet g apart u pin k e test older some le

one_is : (b : Bool) (m : ℕ) → m ≡ 1 → cond b m 0 ≡ one b
one_is true m h = h
one_is false m h = refl

owed_once : (g : Layout) (apart : EdgesApart g) (u pin k e : ℕ) (bytes : List ℕ) (test : List ℕ → Bool) (deeds : List Deed) → HasSend u pin k bytes (vertex_log deeds) → 0 < times e (g.edges u pin)
    → hit_count e k test (owed g (vertex_log deeds)) ≡ one (test (with_key (g.local e) bytes))
owed_once g apart u pin k e bytes test [] h some = absurd h
owed_once g apart u pin k e bytes test (Inited t d x ∷ older) h some = owed_once g apart u pin k e bytes test older h some
owed_once g apart u pin k e bytes test (Sent s ∷ older) (inl h) some =
    let n = sends_of s.vertex older in
    let a = sum_by-append (λ x. one (hits e k test x)) (map (arrival g n s.bytes) (g.edges s.vertex s.pin)) (owed g (vertex_log older)) in
    let b = send_hits g e k test n s.bytes (g.edges s.vertex s.pin) in
    let z = none_yet g apart u pin k e test older some (let c = ap (λ v. sends_of v older) h.0 in let d = h.2 in omega arith) in
    let t1 = ap (λ v. times e (g.edges v pin)) h.0 ∙ ap (λ p. times e (g.edges s.vertex p)) h.1 in
    let o = apart.once s.vertex s.pin e in
    let m : times e (g.edges s.vertex s.pin) ≡ 1 = omega arith in
    let c = one_is (counts g e k test n s.bytes) (times e (g.edges s.vertex s.pin)) m in
    let same : (n == k) ≡ true = eq-eqb n k (sym h.2) in
    let i : one (counts g e k test n s.bytes) ≡ one (test (with_key (g.local e) bytes)) = ap (λ q. one (q && test (with_key (g.local e) s.bytes))) same ∙ ap (λ x. one (test (with_key (g.local e) x))) (sym h.3) in
    omega arith
owed_once g apart u pin k e bytes test (Sent s ∷ older) (inr h) some =
    let less = below g u pin k bytes older h in
    let n = sends_of s.vertex older in
    let a = sum_by-append (λ x. one (hits e k test x)) (map (arrival g n s.bytes) (g.edges s.vertex s.pin)) (owed g (vertex_log older)) in
    let b = send_hits g e k test n s.bytes (g.edges s.vertex s.pin) in
    let m = missed g apart u pin k e test s older some (λ x. omega arith) in
    let r = owed_once g apart u pin k e bytes test older h some in
    omega arith
owed_once g apart u pin k e bytes test (Received t d edge l ∷ older) h some = owed_once g apart u pin k e bytes test older h some
owed_once g apart u pin k e bytes test (Missed t d edge ∷ older) h some = owed_once g apart u pin k e bytes test older h some
owed_once g apart u pin k e bytes test (Stepped t d x ∷ older) h some = owed_once g apart u pin k e bytes test older h some
owed_once g apart u pin k e bytes test (Finished t d x ∷ older) h some = owed_once g apart u pin k e bytes test older h some
owed_once g apart u pin k e bytes test (Announced v ∷ older) h some = owed_once g apart u pin k e bytes test older h some

once_arrived : (g : Layout) → EdgesApart g → (deeds : List Deed) → EachArrived g (vertex_log deeds) → EachOnceArrived g (vertex_log deeds)
once_arrived g apart deeds even = record { each = λ u pin k e bytes test h some. even.each (hits e k test) ∙ owed_once g apart u pin k e bytes test deeds h some }

pub once_at_rest : (g : Layout) → EdgesApart g → (deeds : List Deed) → EvenAtRest g deeds → OnceAtRest g deeds
once_at_rest g apart [] h = tt
once_at_rest g apart (Inited t d x ∷ older) h = once_at_rest g apart older h
once_at_rest g apart (Sent s ∷ older) h = once_at_rest g apart older h
once_at_rest g apart (Received t d edge l ∷ older) h = once_at_rest g apart older h
once_at_rest g apart (Missed t d edge ∷ older) h = once_at_rest g apart older h
once_at_rest g apart (Stepped t d x ∷ older) h = once_at_rest g apart older h
once_at_rest g apart (Finished t d x ∷ older) h = once_at_rest g apart older h
once_at_rest g apart (Announced v ∷ older) h = (once_arrived g apart older h.0, once_at_rest g apart older h.1)
