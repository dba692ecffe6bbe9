mod Justified
