mod Known
mod Linear
mod Eights
