pub mod Sifts
